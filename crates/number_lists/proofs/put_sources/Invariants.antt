-- `number_lists::put_sources` meets its contract: after each turn the bytes of the first i numbers stand from `at` on (`Put`), eight for each (`listed_front`).
use Rattle.text.proofs.Writes.{Put}
use Rattle.model.specs.Bytes.{listed}
use Rattle.model.specs.CoefficientFile.{source_bytes}
use Rattle.number_lists.proofs.put_sources.Given as goal

abbrev pub invariant-loop-i : goal.invariant-loop-i
invariant-loop-i l = Put (listed source_bytes) l.sources l.at l.initial.out l.i l.out
