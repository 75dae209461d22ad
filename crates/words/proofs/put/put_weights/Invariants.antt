-- `words::put::put_weights` meets its contract: after each turn the bytes of the first i weights stand from `at` on (`Put`), two for each (`listed_front`).
use Rattle.text.proofs.Writes.{Put}
use Rattle.model.specs.File.{weight_bytes}
use Rattle.words.proofs.put.put_weights.Given as goal

abbrev pub invariant-loop-i : goal.invariant-loop-i
invariant-loop-i l = Put weight_bytes l.weights l.at l.initial.out l.i l.out
