-- Document 01, "The film file", and document 02, W2: the numbers of a gauged film.
use Rattle.std.specs.Prelude.{List, ℕ, ◌+◌, ◌*◌, ◌≤◌, ℤ, get_or, Option, Some, None}
use Rattle.model.specs.Limits.{step_limit}
use Rattle.model.specs.declared.Factors.{Factors}

-- thicknesses by rows 0 to R + 1 and columns 0 to C + 1: the boundary ring included
pub record Gauge : Type 0 where
  pub rows : ℕ
  pub columns : ℕ
  pub ceiling : ℕ
  pub weights : List ℕ
  pub thicknesses : List ℕ
  pub wedge : ℤ
  pub steps : Option Factors

-- a film's numbers with other weights
abbrev pub weighted_gauge : Gauge → List ℕ → Gauge
weighted_gauge g weights =
    record {
      rows = g.rows;
      columns = g.columns;
      ceiling = g.ceiling;
      weights = weights;
      thicknesses = g.thicknesses;
      wedge = g.wedge;
      steps = g.steps;
    }

abbrev pub thickness_at : Gauge → ℕ → ℕ → ℕ
thickness_at g r c = get_or g.thicknesses (r * (g.columns + 2) + c) 0

-- what links within a row and links between rows are multiplied by: "A film without the field has 1 and 1"
abbrev pub factors_of : Option Factors → Factors
factors_of None = record { along = 1; across = 1 }
factors_of (Some f) = f

-- factors within their limits
pub record Stepped (f : Factors) : Type 0 where
  pub along_some : 1 ≤ f.along
  pub along_low : f.along ≤ step_limit
  pub across_some : 1 ≤ f.across
  pub across_low : f.across ≤ step_limit
