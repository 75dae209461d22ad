-- `number_lists::put_longs` meets its contract: after each turn the bytes of the first i numbers stand from `at` on (`Put`), four for each (`listed_front`).
use Rattle.text.proofs.Writes.{Put}
use Rattle.model.specs.Bytes.{long, listed}
use Rattle.number_lists.proofs.put_longs.Given as goal

abbrev pub invariant-loop-i : goal.invariant-loop-i
invariant-loop-i l = Put (listed long) l.longs l.at l.initial.out l.i l.out
