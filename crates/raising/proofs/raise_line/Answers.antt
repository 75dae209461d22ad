-- `raising::raise_line` meets its contract: each place is filled in turn with the larger of pressure and proposal, which is `raised_at`.
use native.Mathlib.Omega.{arith}
use Rattle.grid.proofs.Fill.{filled_more}
use Rattle.raising.proofs.raise_line.Goals as goal

pub loop-at-preserved : goal.loop-at-preserved
loop-at-preserved c = filled_more _ _ (omega arith) (omega (arith, c.max.ensures, c.proposed_at.ensures)) c.loop-at.invariant
