-- `weighing::put_found` meets its contract: after each turn the first i weights are the field's numbers.
use Rattle.std.proofs.Common.{◌≡◌, take}
use Rattle.weighing.proofs.put_found.Given as goal

abbrev pub invariant-loop-i : goal.invariant-loop-i
invariant-loop-i l = take l.i l.weights ≡ take l.i l.field
