-- `number_lists::longs_in` meets its contract: the first i places hold the first i numbers.
use Rattle.std.proofs.Common.{◌≡◌, take}
use Rattle.model.specs.CoefficientFile.{longs_at}
use Rattle.number_lists.proofs.longs_in.Given as goal

abbrev pub invariant-loop-i : goal.invariant-loop-i
invariant-loop-i l = take l.i l.longs ≡ longs_at l.file l.at l.i
