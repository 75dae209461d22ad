-- What a film is that has passed its tests, test by test.
use Rattle.std.specs.Prelude.{◌≡◌, false, ℕ, ◌+◌, ◌≤◌, ◌<◌, nat_abs, length}
use Rattle.model.specs.Limits.{side_limit, ceiling_limit, diagonal_limit, link_limit, source_limit}
use Rattle.model.specs.Integers.{at_most_zero}
use Rattle.model.specs.Film.{Film, size_of, row_of, column_of, diagonal_at, right_at, up_at, source_at, weight_at, dominance}

-- 4, 5 and 10
pub record Sized (f : Film) : Type 0 where
  pub rows_some : 1 ≤ f.rows
  pub rows_low : f.rows ≤ side_limit
  pub columns_some : 1 ≤ f.columns
  pub columns_low : f.columns ≤ side_limit
  pub ceiling_some : 1 ≤ f.ceiling
  pub ceiling_low : f.ceiling ≤ ceiling_limit
  pub weights_len : length f.weights ≡ size_of f
  pub diagonals_len : length f.diagonals ≡ size_of f
  pub rights_len : length f.rights ≡ size_of f
  pub ups_len : length f.ups ≡ size_of f
  pub sources_len : length f.sources ≡ size_of f

-- 14, at one cell
pub record LimitedCell (f : Film) (i : ℕ) : Type 0 where
  pub diagonal_some : 1 ≤ diagonal_at f i
  pub diagonal_low : diagonal_at f i ≤ diagonal_limit
  pub right_low : right_at f i ≤ link_limit
  pub up_low : up_at f i ≤ link_limit
  pub right_edge : f.columns ≤ column_of f i + 1 → right_at f i ≡ 0
  pub up_edge : f.rows ≤ row_of f i + 1 → up_at f i ≡ 0
  pub source_low : nat_abs (source_at f i) ≤ source_limit

-- 4, 5, 10 and 14
pub record Limited (f : Film) : Type 0 where
  pub sized : Sized f
  pub cell : (i : ℕ) → i < size_of f → LimitedCell f i

-- all of a film's own tests: 6 and 9 too
pub record Accepted (f : Film) : Type 0 where
  pub limited : Limited f
  pub weight : (i : ℕ) → i < size_of f → 1 ≤ weight_at f i
  pub dominant : (i : ℕ) → i < size_of f → at_most_zero (dominance f i) ≡ false
