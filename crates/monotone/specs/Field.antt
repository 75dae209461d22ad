-- Fields: lists of pressures, one to a cell, compared cell by cell.
use Rattle.std.specs.Prelude.{List, [], ◌∷◌, ℕ, ◌+◌, ◌≤◌, get_or}

infix 50 ◌⊑◌
-- the sum of a field's pressures (document 01: a field's total)
abbrev pub total : List ℕ → ℕ
total [] = 0
total (x ∷ xs) = x + total xs

-- p is nowhere higher than q; past its end a field counts as 0
pub record ◌⊑◌ (p q : List ℕ) : Type 0 where
  pub at : (i : ℕ) → get_or p i 0 ≤ get_or q i 0
