-- The table begins with the words that stand in the file.
use mathlib.Core.Path.{◌≡◌}
use Prim.Native.Nat.{◌+◌, ◌*◌}
use lib.ListN.{take}
use Rattle.model.specs.Lists.{tabulate}
use Rattle.model.specs.Bytes.{word_at}
use Rattle.model.specs.File.{weights_offset}
use Rattle.reading.proofs.weights_in.Given as goal

abbrev pub invariant-loop-i : goal.invariant-loop-i
invariant-loop-i l = take l.i l.weights ≡ tabulate l.i (λ k. word_at l.file (weights_offset + 2 * k))
