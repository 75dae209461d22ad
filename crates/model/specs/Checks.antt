-- Document 01, "Refusals": the tests of calls that take coefficients, in their order.
use Rattle.std.specs.Prelude.{Bool, true, not, ◌&&◌, ◌||◌, List, ℕ, ◌+◌, leb, ltb, eqb, nat_abs, length, get_or}
use Rattle.model.specs.Limits.{side_limit, ceiling_limit, diagonal_limit, link_limit, source_limit}
use Rattle.model.specs.Integers.{at_most_zero}
use Rattle.model.specs.Refusals.{Check, pass, ◌or_else◌, fail_if, fail_first}
use Rattle.model.specs.Film.{Film, size_of, row_of, column_of, diagonal_at, right_at, up_at, source_at, weight_at, dominance}

-- x is not from low to high
abbrev pub outside : ℕ → ℕ → ℕ → Bool
outside x low high = ltb x low || ltb high x

-- 4, at the place of each number
abbrev pub shape_check : ℕ → ℕ → ℕ → ℕ → Check
shape_check rows rows_place columns columns_place =
    fail_if (outside rows 1 side_limit) 4 rows_place or_else fail_if (outside columns 1 side_limit) 4 columns_place

-- 5
abbrev pub ceiling_check : ℕ → ℕ → Check
ceiling_check ceiling place = fail_if (outside ceiling 1 ceiling_limit) 5 place

-- 10: whether the film's slices have a number for each cell
unfoldable pub film_fits : Film → Bool
film_fits f =
    eqb (length f.weights) (size_of f) && eqb (length f.diagonals) (size_of f) && eqb (length f.rights) (size_of f)
    && eqb (length f.ups) (size_of f)
    && eqb (length f.sources) (size_of f)

-- 14: a coefficient outside its limits; a link that leaves the grid must be 0
unfoldable pub bad_coefficient : Film → ℕ → Bool
bad_coefficient f i =
    outside (diagonal_at f i) 1 diagonal_limit || ltb link_limit (right_at f i) || ltb link_limit (up_at f i)
    || (leb f.columns (column_of f i + 1) && ltb 0 (right_at f i))
    || (leb f.rows (row_of f i + 1) && ltb 0 (up_at f i))
    || ltb source_limit (nat_abs (source_at f i))

-- 6
unfoldable pub zero_weight : Film → ℕ → Bool
zero_weight f i = eqb (weight_at f i) 0

-- 9
unfoldable pub not_dominant : Film → ℕ → Bool
not_dominant f i = at_most_zero (dominance f i)

-- 11
abbrev pub order_check : ℕ → Check
order_check order = fail_if (ltb 2 order) 11 0

-- 12
abbrev pub start_check : Film → List ℕ → Check
start_check f p = fail_first (λ i. ltb f.ceiling (get_or p i 0)) (size_of f) 12 (λ i. i)

-- 13, for a line and for a cell
abbrev pub line_check : Film → ℕ → Check
line_check f line = fail_if (outside line 1 f.rows) 13 0

abbrev pub cell_check : Film → ℕ → Check
cell_check f i = fail_if (leb (size_of f) i) 13 0

-- 4, 5 and 10: `fits` says whether the call's other slices have their lengths
unfoldable pub size_check : Film → Bool → Check
size_check f fits =
    shape_check f.rows 0 f.columns 0 or_else ceiling_check f.ceiling 0 or_else fail_if (not (film_fits f && fits)) 10 0

-- 14, 6 and 9
unfoldable pub coefficient_check : Film → Check
coefficient_check f = fail_first (bad_coefficient f) (size_of f) 14 (λ i. i)

unfoldable pub weight_check : Film → Check
weight_check f = fail_first (zero_weight f) (size_of f) 6 (λ i. i)

unfoldable pub dominance_check : Film → Check
dominance_check f = fail_first (not_dominant f) (size_of f) 9 (λ i. i)

-- The order of tests, once for all calls: 4, 5, 10, 14, 6, 9, 11, 12, 13. `order`, `start` and `place` are a call's tests 11, 12
-- and 13, `pass` where it has no such input.
abbrev pub numeric_check : Film → Bool → Check → Check → Check → Check
numeric_check f fits order start place =
    size_check f fits or_else coefficient_check f or_else weight_check f or_else dominance_check f or_else order or_else start or_else place

-- the film's own tests
abbrev pub film_check : Film → Check
film_check f = numeric_check f true pass pass pass

-- the tests of a call that takes a field too
abbrev pub field_check : Film → List ℕ → Bool → Check → Check → Check
field_check f p fits order place = numeric_check f (eqb (length p) (size_of f) && fits) order (start_check f p) place
