-- `number_lists::sources_in` meets its contract: the first i places hold the first i sources.
use Rattle.std.proofs.Common.{◌≡◌, take}
use Rattle.model.specs.CoefficientFile.{signed_quads_at}
use Rattle.number_lists.proofs.sources_in.Given as goal

abbrev pub invariant-loop-i : goal.invariant-loop-i
invariant-loop-i l = take l.i l.sources ≡ signed_quads_at l.file l.at l.i
