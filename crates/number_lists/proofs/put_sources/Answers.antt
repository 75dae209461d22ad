-- `number_lists::put_sources` meets its contract: after each turn the bytes of the first i numbers stand from `at` on (`Put`), eight for each (`listed_front`).
use lib.ListN.{take}
use native.Mathlib.Omega.{arith}
use borrow.Author.Rules.{sfits_of}
use Rattle.text.proofs.Writes.{put_more}
use Rattle.words.proofs.Stores.{listed_append, listed_front}
use Rattle.model.proofs.Codes.{signed_quad_code}
use Rattle.model.specs.CoefficientFile.{source_bytes}
use lib.IntN.{pos}
use mir.Facts.{to_z-of_z}
use Rattle.number_lists.proofs.put_sources.Goals as goal

pub loop-i-preserved : goal.loop-i-preserved
loop-i-preserved c =
    let i = c.loop-i.i in
    let xs = c.args.sources.now in
    put_more (pos 0) (omega arith) (listed_append source_bytes (take i xs) _) (listed_front signed_quad_code _ i xs c.loop-i.invariant.within) c.loop-i.invariant
    (rw (c.unsigned_quad.ensures, to_z-of_z (sfits_of c.unsigned_quad-arg-1.given)) at c.put_quad.ensures)
