-- `text::put_bytes` meets its contract: after each turn the first i bytes stand from `at` on, and no other place has changed.
use mathlib.Core.Path.{◌≡◌, refl, sym, ap}
use Prim.Native.Nat.{◌+◌}
use native.Mathlib.Omega.{arith}
use lib.ListN.{length, take}
use lib.Seq.{length-take-le}
use Rattle.text.proofs.Writes.{put_more}
use Rattle.text.proofs.put_bytes.Goals as goal

pub loop-i-preserved : goal.loop-i-preserved
loop-i-preserved c =
    let e : c.args.at + c.loop-i.i ≡ c.args.at + length (take c.loop-i.i c.args.bytes.now) =
    ap (λ n. c.args.at + n) (sym (length-take-le c.loop-i.i c.args.bytes.now c.loop-i.invariant.within)) in
    put_more 0 (omega arith) refl e c.loop-i.invariant refl
