-- The length of a coefficient film's file, its bytes in two parts, and what the writer needs to begin.
use Rattle.std.specs.Prelude.{◌≡◌, cond, ◌||◌, List, [], ◌∷◌, ◌++◌, ℕ, ◌*◌, ◌≤◌, ltb, length}
use Rattle.model.specs.Limits.{side_limit}
use Rattle.model.specs.Film.{Film, size_of}
use Rattle.model.specs.Bytes.{long, listed}
use Rattle.model.specs.Fields.{field}
use Rattle.model.specs.File.{cells, weight_bytes}
use Rattle.model.specs.CoefficientFile.{coefficient_end, source_bytes}

-- 0 where a side is beyond its limit
unfoldable pub coefficient_length : ℕ → ℕ → ℕ
coefficient_length rows columns = cond (ltb side_limit rows || ltb side_limit columns) 0 (coefficient_end (cells rows columns))

-- fields 01 to 03, and 06 to 09
abbrev pub opening_bytes : Film → List ℕ
opening_bytes f =
    field 1 2 (f.rows ∷ f.columns ∷ []) ++ field 2 4 (long f.ceiling) ++ field 3 (2 * length f.weights) (weight_bytes f.weights)

abbrev pub own_bytes : Film → List ℕ
own_bytes f =
    field 6 (4 * length f.diagonals) (listed long f.diagonals) ++ field 7 (4 * length f.rights) (listed long f.rights)
    ++ field 8 (4 * length f.ups) (listed long f.ups)
    ++ field 9 (8 * length f.sources) (listed source_bytes f.sources)

-- n numbers of each list
pub record Numbers (n : ℕ) (f : Film) : Type 0 where
  pub diagonals_len : length f.diagonals ≡ n
  pub rights_len : length f.rights ≡ n
  pub ups_len : length f.ups ≡ n
  pub sources_len : length f.sources ≡ n

-- a film whose shape and lengths have passed their tests, and a slice of its file's length
pub record Writable (f : Film) (out : List ℕ) : Type 0 where
  pub rows_low : f.rows ≤ side_limit
  pub columns_low : f.columns ≤ side_limit
  pub weights_len : length f.weights ≡ size_of f
  pub numbers : Numbers (size_of f) f
  pub out_len : length out ≡ coefficient_end (size_of f)
