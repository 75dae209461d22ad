-- The way back along a line: a solution as the code answers it, and what is proposed.
use Rattle.std.specs.Prelude.{◌≡◌, false, List, ℕ, length, Float, Option, Some, None}
use Rattle.model.specs.Film.{Film}
use Rattle.model.specs.Margin.{margin as margin_of}
use Rattle.model.specs.Estimate as paper
use Rattle.chain.specs.declared.Elimination.{Elimination}
use Rattle.elimination.specs.Line.{Eliminated}

-- the model's cases of a solution
abbrev pub solution_of : Option Float → paper.Solution
solution_of None = paper.none
solution_of (Some p) = paper.value p

-- a film and a field: the weights and right links are those of the film that was lent, margin its margin, and the steps its line's, which
-- did not break
pub record OfLine (f : Film) (p : List ℕ) (lent : Film) (steps : List Elimination) (start margin : ℕ) : Type 0 where
  pub weights_are : f.weights ≡ lent.weights
  pub rights_are : f.rights ≡ lent.rights
  pub margin_is : margin_of f ≡ margin
  pub steps_are : Eliminated f p start false steps

-- the proposal is the estimate of whatever film and field that is
pub record Substituted (lent : Film) (steps : List Elimination) (start margin : ℕ) (proposal : List ℕ) : Type 0 where
  pub is : (f : Film) (p : List ℕ) → OfLine f p lent steps start margin → f.columns ≡ length proposal → proposal ≡ paper.estimate f p start
