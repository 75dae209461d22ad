-- `grid::pull_at` meets its contract: it is the sum of the four products of `pull_by`, each at most 2 ^ 58, so that the sum is at most 2 ^ 60.
use native.Mathlib.Omega.{arith}
use Rattle.grid.specs.Pull.{pull_by}
use Rattle.grid.proofs.pull_at.Goals as goal

pub returns : goal.returns
unfolding pull_by
returns c = omega arith
