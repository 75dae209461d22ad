-- `number_lists::longs_in` meets its contract: the number at a slice's start is the one at that offset of the file (`long_from`).
use mathlib.Core.Path.{◌∙◌}
use Prim.Native.Nat.{◌+◌, ◌*◌}
use native.Mathlib.Omega.{arith}
use Rattle.grid.proofs.Fill.{filled_more}
use Rattle.words.proofs.Rest.{long_from}
use Rattle.number_lists.proofs.longs_in.Goals as goal

pub loop-i-preserved : goal.loop-i-preserved
loop-i-preserved c =
    filled_more _ _ (omega arith) (c.first_long.ensures ∙ long_from c.args.file.now (c.args.at + 4 * c.loop-i.i)) c.loop-i.invariant
