-- What the tests of a line ask of the two fields.
use Rattle.std.specs.Prelude.{◌≡◌, List, ℕ, ◌+◌, ◌≤◌, length}
use Rattle.model.specs.Film.{Film, size_of}

-- a field p and a new field q, a pressure for each cell, and a row inside the grid
pub record Row (f : Film) (start : ℕ) (p q : List ℕ) : Type 0 where
  pub field_len : length p ≡ size_of f
  pub raised_len : length q ≡ size_of f
  pub inside : start + f.columns ≤ size_of f
