-- A cell by its row and column, which run from 1: its index, and its pull side by side, each link times what lies beyond it.
use Rattle.std.specs.Prelude.{None}
use mathlib.Core.Path.{◌≡◌, refl, sym, ap, ap₂, ◌∙◌}
use mathlib.Core.Logic.{◌↔◌}
use mathlib.Core.Bool.{Bool, true, false, cond, ◌&&◌, false≢true}
use mathlib.Core.List.{List, [], ◌∷◌, ◌++◌}
use Prim.Native.Nat.{ℕ, ◌+◌, ◌-◌, ◌*◌, ◌/◌, ◌%◌, ◌≤◌, ◌<◌}
use native.Mathlib.Nat.{mul-le-mul, add-mul, one-mul, mul-zero}
use native.Mathlib.Omega.{arith}
use borrow.Author.Tests.{ltb-true, leb-true, lt-ltb, le-leb}
use lib.Arith.{digits_lt, digits_div, digits_mod}
use lib.Dec.{leb, ltb}
use lib.IntN.{pos}
use lib.ListN.{get_or}
use Rattle.monotone.specs.Links.{pull}
use Rattle.model.specs.Limits.{side_limit}
use Rattle.model.specs.Gauge.{Gauge}
use Rattle.model.specs.Integers.{at_most_zero}
use Rattle.model.specs.Film.{Film, link_if, beside, across, neighbours, pull_of, diagonal_at, right_at, up_at, slack_of}
use Rattle.model.specs.Checks.{not_dominant}
use Rattle.model.specs.Reynolds.{pressure_at}
use Rattle.model.proofs.Slacks.{slack_at_most_zero}
use Rattle.model.proofs.Checks.{and_parts}

-- ---- cells and their indices

-- (r, c) is a cell of a grid with R rows and C columns, and not of the ring
pub record Cell (R C r c : ℕ) : Type 0 where
  pub below : 1 ≤ r
  pub above : r ≤ R
  pub left : 1 ≤ c
  pub right : c ≤ C

-- its index
abbrev pub index : ℕ → ℕ → ℕ → ℕ
index C r c = (r - 1) * C + (c - 1)

-- the test for a cell passes at cells and nowhere else
module _ (R C r c : ℕ) where
  cell_true : Cell R C r c → (leb 1 r && leb r R && leb 1 c && leb c C) ≡ true
  cell_true w = rw (le-leb 1 r w.below, le-leb r R w.above, le-leb 1 c w.left, le-leb c C w.right)

  pub true_cell : (leb 1 r && leb r R && leb 1 c && leb c C) ≡ true → Cell R C r c
  true_cell e =
      let three = and_parts _ (leb c C) e in
      let two = and_parts _ (leb 1 c) three.0 in
      let one = and_parts (leb 1 r) (leb r R) two.0 in
      omega (arith, leb-true 1 r one.0, leb-true r R one.1, leb-true 1 c two.1, leb-true c C three.1)

-- at most 1,024 cells
pub cells_low : (R C : ℕ) → R ≤ side_limit → C ≤ side_limit → R * C ≤ 1024
cells_low R C h k = mul-le-mul h k

-- a row of C ends where the one before it ends, and C on
pub row_end : (C r : ℕ) → 1 ≤ r → r * C ≡ (r - 1) * C + C
row_end C r h = omega (arith, ap (λ (k : ℕ). k * C) back, add-mul (r - 1) 1 C, one-mul C)
  where
    back : r ≡ r - 1 + 1
    back = omega arith

-- an index is below the number of cells, and has the cell's row and column from 0
module _ {R C r c : ℕ} (w : Cell R C r c) where
  pub index_low : index C r c < R * C
  index_low = digits_lt {q = r - 1} {m = R} {r = c - 1} {c = C} (omega arith) (omega arith)

  pub index_row : index C r c / C ≡ r - 1
  index_row = digits_div (r - 1) (omega arith)

  pub index_column : index C r c % C ≡ c - 1
  index_column = digits_mod (r - 1) (omega arith)

  -- the index of the cell before and of the next, in the row and in the column
  pub left_index : Cell R C r (c - 1) → index C r c - 1 ≡ index C r (c - 1)
  left_index v = omega arith

  pub right_index : index C r c + 1 ≡ index C r (c + 1)
  right_index = omega arith

  pub down_index : Cell R C (r - 1) c → index C r c - C ≡ index C (r - 1) c
  down_index v = omega (arith, row_end C (r - 1) v.below)

  pub up_index : index C r c + C ≡ index C (r + 1) c
  up_index = let e : r + 1 - 1 ≡ r = omega arith in omega (arith, row_end C r w.below, ap (λ (k : ℕ). k * C) e)

-- a list's number for a cell; on the ring, where nothing is inside, 0
module _ (g : Gauge) (p : List ℕ) {r c i : ℕ} where
  pub number_at_lem : Cell g.rows g.columns r c → i ≡ index g.columns r c → get_or p i 0 ≡ pressure_at g p r c
  number_at_lem w e = rw (cell_true g.rows g.columns r c w, e)

  pub number_if : (inside : Bool) → (inside ≡ true ↔ Cell g.rows g.columns r c) → (Cell g.rows g.columns r c → i ≡ index g.columns r c)
      → cond inside (get_or p i 0) 0 ≡ pressure_at g p r c
  number_if true t e = number_at_lem (t.0 refl) (e (t.0 refl))
  number_if false t e = go (leb 1 r && leb r g.rows && leb 1 c && leb c g.columns) (λ h. t.1 (true_cell g.rows g.columns r c h))
    where
      go : (b : Bool) → (b ≡ true → false ≡ true) → 0 ≡ cond b (get_or p (index g.columns r c) 0) 0
      go true h = absurd (false≢true (h refl))
      go false h = refl

-- ---- the pull over one side of a cell, and over all four

-- pulls add up
pub pull_append : (ls ms : List (ℕ × ℕ)) (p : ℕ → ℕ) → pull (ls ++ ms) p ≡ pull ls p + pull ms p
pull_append [] ms p = omega arith
pull_append (l ∷ ls) ms p = omega (arith, pull_append ls ms p)

-- a film's grid, as `pressure_at` takes it: of a film's numbers only rows and columns count
abbrev pub grid_of : Film → Gauge
grid_of f =
    record { rows = f.rows; columns = f.columns; ceiling = f.ceiling; weights = f.weights; thicknesses = []; wedge = pos 0; steps = None }

-- (r, c) is a cell of the film
abbrev pub Inside : Film → ℕ → ℕ → Type 0
Inside f r c = Cell f.rows f.columns r c

-- the four links of cell (r, c): the right and the up link are its own, the others those of the cells before; those to the ring are any
pub record Linked (f : Film) (r c left right down up : ℕ) : Type 0 where
  pub left_is : Inside f r (c - 1) → right_at f (index f.columns r c - 1) ≡ left
  pub right_is : Inside f r (c + 1) → right_at f (index f.columns r c) ≡ right
  pub down_is : Inside f (r - 1) c → up_at f (index f.columns r c - f.columns) ≡ down
  pub up_is : Inside f (r + 1) c → up_at f (index f.columns r c) ≡ up

module _ (f : Film) (p : List ℕ) where
  abbrev number_at : ℕ → ℕ → ℕ
  number_at = pressure_at (grid_of f) p

  -- the side of a cell towards (r, c): the pull over its link, if it has one, is k times the number beyond it
  record Side (r c k : ℕ) (linked : Bool) (cell link : ℕ) : Type 0 where
    pulls : pull (link_if linked cell link) (λ j. get_or p j 0) ≡ k * number_at r c

  -- so if it has a link exactly where (r, c) is a cell, to that cell's index and with k as coefficient; towards the ring, 0 ≡ k * 0
  side : {r c k : ℕ} {linked : Bool} {cell link : ℕ} → (linked ≡ true ↔ Inside f r c) → (Inside f r c → (cell ≡ index f.columns r c) × (link ≡ k))
      → Side r c k linked cell link
  side {r} {c} {linked = true} t e =
      let w = t.0 refl in
      record { pulls = rw (← number_at_lem (grid_of f) p w (e w).0, (e w).1) (omega arith) }
  side {r} {c} {k} {linked = false} t e =
      let none : 0 ≡ number_at r c = number_if (grid_of f) p {r = r} {c = c} {i = 0} false t (λ w. absurd (false≢true (t.1 w))) in
      record { pulls = sym (mul-zero k) ∙ ap (λ (n : ℕ). k * n) none }

  -- the pull is the sum of link × number beyond, over all four sides
  module _ {r c left right down up : ℕ} (w : Inside f r c) (l : Linked f r c left right down up) where
    left_side : Side r (c - 1) left (ltb 0 (c - 1)) (index f.columns r c - 1) (right_at f (index f.columns r c - 1))
    left_side = side (omega (arith, ltb-true, lt-ltb)) (λ v. (left_index w v, l.left_is v))

    right_side : Side r (c + 1) right (ltb (c - 1 + 1) f.columns) (index f.columns r c + 1) (right_at f (index f.columns r c))
    right_side = side (omega (arith, ltb-true, lt-ltb)) (λ v. (right_index w, l.right_is v))

    down_side : Side (r - 1) c down (ltb 0 (r - 1)) (index f.columns r c - f.columns) (up_at f (index f.columns r c - f.columns))
    down_side = side (omega (arith, ltb-true, lt-ltb)) (λ v. (down_index w v, l.down_is v))

    up_side : Side (r + 1) c up (ltb (r - 1 + 1) f.rows) (index f.columns r c + f.columns) (up_at f (index f.columns r c))
    up_side = side (omega (arith, ltb-true, lt-ltb)) (λ v. (up_index w, l.up_is v))

    pub pull_sides : pull_of f p (index f.columns r c)
        ≡ left * number_at r (c - 1) + right * number_at r (c + 1) + (down * number_at (r - 1) c + up * number_at (r + 1) c)
    unfolding neighbours beside across
    pull_sides =
        rw (index_row w, index_column w)
        (simp pull_append (λ j. left_side.pulls j + right_side.pulls j + (down_side.pulls j + up_side.pulls j)))

-- a weighted row sum is below 1 where the weights beside the cell pull at least as much as its own bears
pub row_sum : (f : Film) {r c d left right down up : ℕ} → Inside f r c → diagonal_at f (index f.columns r c) ≡ d → Linked f r c left right down up
    → (let weight = pressure_at (grid_of f) f.weights in
    leb (d * weight r c) (left * weight r (c - 1) + right * weight r (c + 1) + (down * weight (r - 1) c + up * weight (r + 1) c))
    ≡ not_dominant f (index f.columns r c))
unfolding not_dominant
row_sum f {r} {c} {d} {left} {right} {down} {up} w e l =
    let weight : ℕ → ℕ → ℕ = pressure_at (grid_of f) f.weights in
    let pulled : ℕ = left * weight r (c - 1) + right * weight r (c + 1) + (down * weight (r - 1) c + up * weight (r + 1) c) in
    let own : d * weight r c + 0 ≡ d * weight r c = omega arith in
    let pull : pulled + 0 ≡ pulled = omega arith in
    sym
    ((λ j. at_most_zero (slack_of (e j) (pull_sides f f.weights w l j) (pos 0) (number_at_lem (grid_of f) f.weights w refl j)))
    ∙ slack_at_most_zero d pulled (pos 0) (weight r c)
    ∙ ap₂ leb own pull)
