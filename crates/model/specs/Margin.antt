-- Document 01, "A line offer": K, the least whole number, 0 included, with K × dominance at least the sum of inside links at every cell.
use Rattle.std.specs.Prelude.{ℕ}
use Rattle.monotone.specs.Links.{pull}
use Rattle.monotone.specs.Linear.{required_of}
use Rattle.model.specs.Lists.{greatest}
use Rattle.model.specs.Integers.{positive_part}
use Rattle.model.specs.Film.{Film, size_of, neighbours, dominance}
use Rattle.model.specs.Checks.{film_check}
use Rattle.model.specs.Result.{Answer, answer_by}

-- the sum of a cell's inside links: those to cells of the grid
abbrev pub inside : Film → ℕ → ℕ
inside f i = pull (neighbours f i) (λ j. 1)

-- the least k with inside ≤ dominance × k; an accepted film's dominance is at least 1
abbrev pub margin_at : Film → ℕ → ℕ
margin_at f i = required_of (positive_part (dominance f i)) 0 (inside f i)

unfoldable pub margin : Film → ℕ
margin f = greatest (margin_at f) (size_of f)

-- the call that tells a film's margin
abbrev pub margin_call : Film → Answer ℕ
margin_call f = answer_by (film_check f) (margin f)
