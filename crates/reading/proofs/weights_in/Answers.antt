-- `reading::weights_in` meets its contract: the next word goes behind those that the table begins with.
use mathlib.Core.Path.{◌∙◌}
use Prim.Native.Nat.{◌+◌, ◌*◌}
use native.Mathlib.Omega.{arith}
use Rattle.grid.proofs.Fill.{filled_more}
use Rattle.model.specs.File.{weights_offset}
use Rattle.words.proofs.Rest.{word_from}
use Rattle.reading.proofs.weights_in.Goals as goal

pub loop-i-preserved : goal.loop-i-preserved
loop-i-preserved c =
    filled_more _ _ (omega arith) (c.first_word.ensures ∙ word_from c.args.file.now (weights_offset + 2 * c.loop-i.i)) c.loop-i.invariant
