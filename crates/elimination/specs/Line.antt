-- The elimination along a line: what its code is lent, the step in a cell of the film, and what is kept of a line.
use Rattle.std.specs.Prelude.{◌≡◌, Bool, false, List, ℕ, suc, ◌-◌, ◌<◌, get_or}
use Rattle.std.specs.Float.{binary64}
use Rattle.std.specs.Float.Ieee.{of_int}
use Rattle.monotone.specs.Rule.{Bounded}
use Rattle.monotone.specs.Links.{pull}
use Rattle.model.specs.Film.{Film, weighted, rule, across, diagonal_at, right_at}
use Rattle.model.specs.Accepted.{Accepted}
use Rattle.model.specs.Estimate as paper
use Rattle.chain.specs.Line.{elimination_of}
use Rattle.chain.specs.declared.Elimination.{Elimination}
use Rattle.chain.specs.declared.Elimination.TheVariants.{Idle}

-- an accepted film, whatever its weights, and a field of it
pub record Held (f : Film) (p : List ℕ) : Type 0 where
  pub weights : List ℕ
  pub accepted : Accepted (weighted f weights)
  pub bounded : Bounded (rule f) p

-- link × pressure over the rows below and above
abbrev pub across_of : Film → List ℕ → ℕ → ℕ
across_of f p i = pull (across f i) (λ j. get_or p j 0)

-- what the elimination step in cell i yields, from what the cell before it yielded
abbrev pub step_at : Film → List ℕ → ℕ → paper.Elimination → paper.Elimination
step_at f p i e =
    paper.eliminate (paper.active f p i) (paper.float_of (diagonal_at f i)) (of_int binary64 (paper.right_side f p i))
    (paper.float_of (right_at f (i - 1)))
    e

-- the first n steps along a line stand in the list
pub record Recorded (f : Film) (p : List ℕ) (start n : ℕ) (steps : List Elimination) : Type 0 where
  pub step : (k : ℕ) → k < n → elimination_of (get_or steps k Idle) ≡ paper.eliminated f p start (suc k)

-- The elimination of a whole line: whether it broke, and, if it did not, all of its steps. A broken line ends at the step that broke it, and
-- nothing reads what it kept.
pub record Eliminated (f : Film) (p : List ℕ) (start : ℕ) (broke : Bool) (steps : List Elimination) : Type 0 where
  pub broken : broke ≡ paper.is_broken (paper.eliminated f p start f.columns)
  pub kept : broke ≡ false → Recorded f p start f.columns steps
