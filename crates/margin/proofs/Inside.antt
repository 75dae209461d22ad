-- The neighbours inside the grid: their indices are below the number of cells, so that ones in all cells pull as much as the inside links,
-- and what they pull is small.
use mathlib.Core.Path.{◌≡◌, refl}
use mathlib.Core.Bool.{Bool, true, false}
use mathlib.Core.List.{List}
use Prim.Native.Nat.{ℕ, ◌+◌, ◌-◌, ◌*◌, ◌≤◌, ◌<◌, ◌^◌}
use native.Mathlib.Nat.{div-add-mod, div-lt_iff_lt-mul, mod-lt, mul-le-mul, mul-le-mul_left, mul-add, mul_comm}
use native.Mathlib.Omega.{arith}
use borrow.Author.Tests.{ltb-true}
use lib.Dec.{ltb}
use lib.ListN.{get_or}
use Rattle.monotone.specs.Links.{pull}
use Rattle.model.specs.Film.{Film, size_of, row_of, column_of, right_at, up_at, link_if, beside, across, neighbours, pull_of}
use Rattle.model.specs.Margin.{inside}
use Rattle.grid.specs.Pull.{Links}
use Rattle.model.proofs.Sides.{pull_append}

-- a link counts the same with numbers that agree where it leads, and not more than its product
if_same : (b : Bool) (cell link : ℕ) (x y : ℕ → ℕ) → (b ≡ true → x cell ≡ y cell)
    → pull (link_if b cell link) x ≡ pull (link_if b cell link) y
if_same true cell link x y h = rw (h refl)
if_same false cell link x y h = refl

if_low : (b : Bool) (cell link : ℕ) (x : ℕ → ℕ) → pull (link_if b cell link) x ≤ link * x cell
if_low true cell link x = omega arith
if_low false cell link x = omega arith

-- the four links of a cell, as far as they stay inside the grid
module _ (f : Film) (i : ℕ) where
  abbrev left : List (ℕ × ℕ)
  left = link_if (ltb 0 (column_of f i)) (i - 1) (right_at f (i - 1))

  abbrev right : List (ℕ × ℕ)
  right = link_if (ltb (column_of f i + 1) f.columns) (i + 1) (right_at f i)

  abbrev down : List (ℕ × ℕ)
  down = link_if (ltb 0 (row_of f i)) (i - f.columns) (up_at f (i - f.columns))

  abbrev up : List (ℕ × ℕ)
  up = link_if (ltb (row_of f i + 1) f.rows) (i + f.columns) (up_at f i)

  pull_across : (x : ℕ → ℕ) → pull (across f i) x ≡ pull down x + pull up x
  unfolding across
  pull_across x = pull_append down up x

  pull_all : (x : ℕ → ℕ) → pull (neighbours f i) x ≡ pull left x + pull right x + (pull down x + pull up x)
  unfolding neighbours beside
  pull_all x = omega (arith, pull_append (beside f i) (across f i) x, pull_append left right x, pull_across x)

  -- the inside links of a cell add up to little, where links are small
  pub inside_low : {x : List ℕ} → Links f.rights x → Links f.ups x → inside f i ≤ 2 ^ 28
  inside_low R U =
      let ones : ℕ → ℕ = λ j. 1 in
      omega (
        arith,
        pull_all ones,
        if_low (ltb 0 (column_of f i)) (i - 1) (right_at f (i - 1)) ones,
        if_low (ltb (column_of f i + 1) f.columns) (i + 1) (right_at f i) ones,
        if_low (ltb 0 (row_of f i)) (i - f.columns) (up_at f (i - f.columns)) ones,
        if_low (ltb (row_of f i + 1) f.rows) (i + f.columns) (up_at f i) ones,
        R.small (i - 1),
        R.small i,
        U.small (i - f.columns),
        U.small i,
      )

  -- so do the products of two vertical links with pressures up to 2 ^ 24
  pub across_low : (p : List ℕ) → Links f.ups p → ((k : ℕ) → get_or p k 0 ≤ 2 ^ 24) → pull (across f i) (λ j. get_or p j 0) ≤ 2 ^ 52
  across_low p U low =
      let at : ℕ → ℕ = λ j. get_or p j 0 in
      omega (
        arith,
        pull_across at,
        if_low (ltb 0 (row_of f i)) (i - f.columns) (up_at f (i - f.columns)) at,
        if_low (ltb (row_of f i + 1) f.rows) (i + f.columns) (up_at f i) at,
        mul-le-mul (U.small (i - f.columns)) (low (i - f.columns)),
        mul-le-mul (U.small i) (low (i + f.columns)),
      )

module _ (f : Film) (some : 0 < f.columns) (i : ℕ) (b : i < size_of f) where
  -- the end of the cell's row, or of a row after it, is not past the last cell
  row_end : (r : ℕ) → row_of f i + r < f.rows → f.columns * row_of f i + f.columns * r + f.columns ≤ size_of f
  row_end r h =
      omega (
        arith,
        mul-le-mul_left f.columns h,
        mul-add f.columns (row_of f i + r) 1,
        mul-add f.columns (row_of f i) r,
        mul_comm f.columns f.rows,
      )

  right_inside : column_of f i + 1 < f.columns → i + 1 < size_of f
  right_inside h = omega (arith, row_end 0 (omega (arith, (div-lt_iff_lt-mul some).1 b)), div-add-mod i f.columns)

  up_inside : row_of f i + 1 < f.rows → i + f.columns < size_of f
  up_inside h = omega (arith, row_end 1 h, div-add-mod i f.columns, mod-lt i some)

  -- the pull of ones is the sum of inside links
  pub inside_is : (x : List ℕ) → ((j : ℕ) → j < size_of f → get_or x j 0 ≡ 1) → pull_of f x i ≡ inside f i
  inside_is x one =
      let at : ℕ → ℕ = λ j. get_or x j 0 in
      let ones : ℕ → ℕ = λ j. 1 in
      omega (
        arith,
        pull_all f i at,
        pull_all f i ones,
        if_same (ltb 0 (column_of f i)) (i - 1) (right_at f (i - 1)) at ones (λ _. one (i - 1) (omega arith)),
        if_same (ltb (column_of f i + 1) f.columns) (i + 1) (right_at f i) at ones (λ t. one (i + 1) (right_inside (ltb-true _ _ t))),
        if_same (ltb 0 (row_of f i)) (i - f.columns) (up_at f (i - f.columns)) at ones (λ _. one (i - f.columns) (omega arith)),
        if_same (ltb (row_of f i + 1) f.rows) (i + f.columns) (up_at f i) at ones (λ t. one (i + f.columns) (up_inside (ltb-true _ _ t))),
      )
