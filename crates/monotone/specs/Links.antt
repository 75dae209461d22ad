-- What the neighbours of a cell add to its equation: each link times the pressure at its other end.
use Rattle.std.specs.Prelude.{List, [], ◌∷◌, ℕ, ◌+◌, ◌*◌}

-- a link is (the cell at its other end, its coefficient); p gives the pressures
abbrev pub pull : List (ℕ × ℕ) → (ℕ → ℕ) → ℕ
pull [] p = 0
pull (l ∷ ls) p = l.1 * p l.0 + pull ls p
