-- `number_lists::put_longs` meets its contract: after each turn the bytes of the first i numbers stand from `at` on (`Put`), four for each (`listed_front`).
use lib.ListN.{take}
use native.Mathlib.Omega.{arith}
use Rattle.text.proofs.Writes.{put_more}
use Rattle.words.proofs.Stores.{listed_append, listed_front}
use Rattle.model.specs.Bytes.{long}
use Rattle.model.proofs.Codes.{long_code}
use Rattle.number_lists.proofs.put_longs.Goals as goal

pub loop-i-preserved : goal.loop-i-preserved
loop-i-preserved c =
    let i = c.loop-i.i in
    let xs = c.args.longs.now in
    put_more 0 (omega arith) (listed_append long (take i xs) _) (listed_front long_code _ i xs c.loop-i.invariant.within) c.loop-i.invariant
    c.put_long.ensures
