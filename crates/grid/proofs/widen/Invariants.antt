-- `grid::widen` meets its contract: the first i numbers are the first i weights.
use Rattle.std.proofs.Common.{◌≡◌, take}
use Rattle.grid.proofs.widen.Given as goal

abbrev pub invariant-loop-i : goal.invariant-loop-i
invariant-loop-i l = take l.i l.numbers ≡ take l.i l.weights
