-- The bytes of a film's optional field, the length of its file, and what the writer needs to begin.
use Rattle.std.specs.Prelude.{◌≡◌, cond, ◌||◌, List, [], ◌∷◌, ℕ, ◌+◌, ◌≤◌, ltb, length, Option}
use Rattle.model.specs.Limits.{side_limit}
use Rattle.model.specs.Gauge.{Gauge, factors_of, Stepped}
use Rattle.model.specs.Fields.{bytes_of, present, givens}
use Rattle.model.specs.File.{cells, ringed, gauged_optional, end_offset, steps_part}
use Rattle.model.specs.declared.Factors.{Factors}

-- those of field 0A, or none
abbrev pub steps_bytes : Option Factors → List ℕ
steps_bytes steps = bytes_of (present gauged_optional (steps_part steps ∷ [])) (givens (steps_part steps ∷ []))

-- 0 where a side is beyond its limit
unfoldable pub file_length : ℕ → ℕ → Option Factors → ℕ
file_length rows columns steps =
    cond (ltb side_limit rows || ltb side_limit columns) 0 (end_offset (cells rows columns) (ringed rows columns) + length (steps_bytes steps))

-- a film whose shape, lengths and steps have passed their tests, and a slice of its file's length
pub record Writable (g : Gauge) (out : List ℕ) : Type 0 where
  pub rows_low : g.rows ≤ side_limit
  pub columns_low : g.columns ≤ side_limit
  pub weights_len : length g.weights ≡ cells g.rows g.columns
  pub thicknesses_len : length g.thicknesses ≡ ringed g.rows g.columns
  pub steps_low : Stepped (factors_of g.steps)
  pub out_len : length out ≡ end_offset (cells g.rows g.columns) (ringed g.rows g.columns) + length (steps_bytes g.steps)
