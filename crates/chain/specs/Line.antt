-- An elimination step as the code answers it, and as the next cell has it.
use Rattle.std.specs.Prelude.{Option, Some, None}
use Rattle.model.specs.Estimate as paper
use Rattle.chain.specs.declared.Elimination.{Elimination}
use Rattle.chain.specs.declared.Elimination.TheVariants as steps
use Rattle.chain.specs.declared.Preceding.{Preceding}

-- the model's cases of a step
abbrev pub elimination_of : Elimination → paper.Elimination
elimination_of steps.Idle = paper.idle
elimination_of (steps.Pivot g h) = paper.pivot g h
elimination_of steps.Broken = paper.broken

-- the step of the cell before, by what it has handed on; where it is not active it has handed on nothing
abbrev pub step_of : Option Preceding → paper.Elimination
step_of None = paper.idle
step_of (Some p) = paper.pivot p.g p.h
