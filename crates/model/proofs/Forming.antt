-- Coefficients formed from a film's numbers that pass their tests pass the tests of the calls that take coefficients.
use mathlib.Core.Path.{◌≡◌, refl, sym, ◌∙◌, subst}
use mathlib.Core.Bool.{Bool, true, false, not, cond, ◌&&◌, true≢false}
use mathlib.Core.List.{List}
use Prim.Native.Nat.{ℕ, zero, suc, ◌+◌, ◌-◌, ◌*◌, ◌/◌, ◌%◌, ◌≤◌, ◌<◌}
use native.Mathlib.Nat.{le_trans, mul-le-mul, div-lt_iff_lt-mul, mod-lt}
use native.Mathlib.Omega.{arith}
use borrow.Author.Tests.{eqb-false, le-ltb, le-leb, lt-leb, eq-eqb, ne_eqb}
use lib.Arith.{digits_lt}
use lib.Dec.{leb, ltb, eqb}
use lib.IntN.{ℤ, pos, negsuc, neg_ℤ, ◌-ℤ◌, ◌*ℤ◌, nat_abs}
use lib.ListN.{length, get_or}
use Rattle.model.specs.Limits.{side_limit, ceiling_limit, thickness_limit, wedge_limit, step_limit, diagonal_limit, link_limit, source_limit}
use Rattle.model.specs.Lists.{tabulate, first_of}
use Rattle.monotone.specs.Rule.{Bounded}
use Rattle.model.specs.Refusals.{Check, pass, ◌or_else◌, fail_if, fail_first}
use Rattle.model.specs.Gauge.{Gauge, thickness_at, factors_of}
use Rattle.model.specs.Film.{Film, size_of, weight_at, rule}
use Rattle.model.specs.Coefficients.{link_of, row_link, column_link, formed_diagonal, formed_right, formed_up, formed_source, by_cell, formed}
use Rattle.model.specs.Checks.{outside, film_fits, bad_coefficient, zero_weight, not_dominant, size_check, coefficient_check, weight_check, dominance_check, start_check, numeric_check, film_check, field_check}
use Rattle.model.specs.Accepted.{Sized, LimitedCell, Limited, Accepted}
use Rattle.model.specs.File.{cells, ringed, ceiling_offset, weights_offset, thicknesses_offset, gauge_dominance, gauge_check, Values}
use Rattle.model.proofs.Integers.{sub_pos, sub_lt, sub_le, by_order}
use Rattle.model.proofs.Lists.{tabulate_length, tabulate_at, first_hit}
use Rattle.model.proofs.Checks.{within, fail_if_pass, fail_first_pass}
use Rattle.model.proofs.GaugeTests.{NumbersPassed, GaugePassed, gauge_passes, gauge_shape, wedge_low, stepped}

-- ---- an accepted film passes its tests: the converse of what passed tests say

pub outside_false : (x low high : ℕ) → low ≤ x → x ≤ high → outside x low high ≡ false
outside_false x low high h k = rw (le-ltb x low h, le-ltb high x k)

-- a search that finds no fault
pub pass_first : (bad : ℕ → Bool) (n number : ℕ) (place : ℕ → ℕ) → ((i : ℕ) → i < n → bad i ≡ false) → fail_first bad n number place ≡ pass
pass_first bad n number place h =
    by_order (first_of bad n) n
    (λ l. absurd (true≢false (sym (first_hit bad n l) ∙ h (first_of bad n) l)))
    (λ l. rw (le-ltb (first_of bad n) n l))

-- a link that is 0 at the grid's edge
edge_false : (a b link : ℕ) → (a ≤ b → link ≡ 0) → (leb a b && ltb 0 link) ≡ false
edge_false a b link h =
    by_order b a (λ l. rw (lt-leb a b l)) (λ l. rw (le-leb a b l) (le-ltb 0 link (omega (arith, h l))))

-- 4, 5 and 10
size_fine : (f : Film) → Sized f → (fits : Bool) → size_check f fits ≡ fail_if (not fits) 10 0
unfolding size_check film_fits
size_fine f s fits =
    rw (
      outside_false f.rows 1 side_limit s.rows_some s.rows_low,
      outside_false f.columns 1 side_limit s.columns_some s.columns_low,
      outside_false f.ceiling 1 ceiling_limit s.ceiling_some s.ceiling_low,
      eq-eqb _ _ s.weights_len,
      eq-eqb _ _ s.diagonals_len,
      eq-eqb _ _ s.rights_len,
      eq-eqb _ _ s.ups_len,
      eq-eqb _ _ s.sources_len,
    )

-- 14, at one cell
cell_fine : (f : Film) (i : ℕ) → LimitedCell f i → bad_coefficient f i ≡ false
unfolding bad_coefficient
cell_fine f i c =
    rw (
      outside_false _ 1 diagonal_limit c.diagonal_some c.diagonal_low,
      le-ltb _ _ c.right_low,
      le-ltb _ _ c.up_low,
      edge_false _ _ _ c.right_edge,
      edge_false _ _ _ c.up_edge,
      le-ltb _ _ c.source_low,
    )

-- all of a film's own tests, so that a call's are left
accepted_rest : (f : Film) → Accepted f → (fits : Bool) (order start place : Check)
    → numeric_check f fits order start place ≡ (fail_if (not fits) 10 0 or_else order or_else start or_else place)
unfolding coefficient_check weight_check dominance_check zero_weight not_dominant
accepted_rest f A fits order start place =
    rw (
      size_fine f A.limited.sized fits,
      pass_first (bad_coefficient f) (size_of f) 14 (λ i. i) (λ i h. cell_fine f i (A.limited.cell i h)),
      pass_first (zero_weight f) (size_of f) 6 (λ i. i) (λ i h. ne_eqb (weight_at f i) 0 (λ e. omega (arith, A.weight i h))),
      pass_first (not_dominant f) (size_of f) 9 (λ i. i) A.dominant,
    )

pub accepted_passes : (f : Film) → Accepted f → film_check f ≡ pass
accepted_passes f A = accepted_rest f A true pass pass pass

-- a field of such a film passes too
pub field_accepted : (f : Film) (p : List ℕ) (fits : Bool) (order place : Check) → Accepted f → Bounded (rule f) p
    → field_check f p fits order place ≡ (fail_if (not fits) 10 0 or_else order or_else place)
field_accepted f p fits order place A B =
    rw (
      eq-eqb _ _ B.len,
      accepted_rest f A fits order (start_check f p) place,
      pass_first (λ i. ltb f.ceiling (get_or p i 0)) (size_of f) 12 (λ i. i) (λ i h. le-ltb f.ceiling (get_or p i 0) (B.low i)),
    )

-- ---- limits of the formed coefficients, over plain numbers

-- a link of thicknesses and a factor within their limits
record Link (k : ℕ) : Type 0 where
  some : 1 ≤ k
  low : k ≤ link_limit

link_limits : (f a b : ℕ) → (1 ≤ f) × (f ≤ step_limit) → (1 ≤ a) × (a ≤ thickness_limit) → (1 ≤ b) × (b ≤ thickness_limit) → Link (link_of f a b)
link_limits f a b l h k =
    let some : 1 ≤ a + b = omega arith in
    let low : a + b ≤ thickness_limit + thickness_limit = omega arith in
    record {
      some = mul-le-mul l.0 (mul-le-mul (mul-le-mul some some) some);
      low = le_trans (mul-le-mul l.1 (mul-le-mul (mul-le-mul low low) low)) (omega arith);
    }

-- a diagonal, the sum of four; and a link that is counted or not
diagonal_limits : {l r d u : ℕ} → Link l → Link r → Link d → Link u → (1 ≤ l + r + d + u) × (l + r + d + u ≤ diagonal_limit)
diagonal_limits l r d u = omega arith

link_if_lem : {k : ℕ} (counted : Bool) → Link k → cond counted k 0 ≤ link_limit
link_if_lem true k = k.low
link_if_lem false k = omega arith

-- a source: |x × y| is |x| × |y|, and the difference of two numbers up to k is at most k
abs_neg : (n : ℕ) → nat_abs (neg_ℤ (pos n)) ≡ n
abs_neg zero = refl
abs_neg (suc n) = refl

pub abs_mul : (x y : ℤ) → nat_abs (x *ℤ y) ≡ nat_abs x * nat_abs y
abs_mul (pos a) (pos b) = refl
abs_mul (pos a) (negsuc b) = abs_neg (a * suc b)
abs_mul (negsuc a) (pos b) = abs_neg (suc a * b)
abs_mul (negsuc a) (negsuc b) = refl

pub abs_sub : (a b k : ℕ) → a ≤ k → b ≤ k → nat_abs (pos a -ℤ pos b) ≤ k
abs_sub a b k h l =
    by_order a b
    (λ o. rw (sub_pos a b, sub_lt a b o) (omega arith))
    (λ o. rw (sub_pos a b, sub_le a b o) (omega arith))

source_limit_lem : (w : ℤ) (a b : ℕ) → nat_abs w ≤ wedge_limit → a ≤ thickness_limit → b ≤ thickness_limit
    → nat_abs (w *ℤ (pos a -ℤ pos b)) ≤ source_limit
source_limit_lem w a b h k l = rw (abs_mul w (pos a -ℤ pos b)) (le_trans (mul-le-mul h (abs_sub a b thickness_limit k l)) (omega arith))

-- ---- a film's numbers that have passed their tests

module _ (g : Gauge) (p : NumbersPassed g) where
  -- the thicknesses, those of the boundary ring too
  thickness_limits : (r c : ℕ) → (r < g.rows + 2) × (c < g.columns + 2) → (1 ≤ thickness_at g r c) × (thickness_at g r c ≤ thickness_limit)
  thickness_limits r c h =
      within (thickness_at g r c) 1 thickness_limit
      (fail_first_pass (λ j. outside (get_or g.thicknesses j 0) 1 thickness_limit) (ringed g.rows g.columns) 7
      (λ j. thicknesses_offset (cells g.rows g.columns) + j) p.thicknesses (r * (g.columns + 2) + c) (digits_lt h.0 h.1))

  -- the cell in row r and column c, counted from 1: its link to (s, d), of the grid or the ring, and what is formed from its links
  module _ (r c : ℕ) (w : (r ≤ g.rows) × (c ≤ g.columns)) where
    link_to : (f s d : ℕ) → (1 ≤ f) × (f ≤ step_limit) → (s < g.rows + 2) × (d < g.columns + 2) → Link (link_of f (thickness_at g r c) (thickness_at g s d))
    link_to f s d k h = link_limits f _ _ k (thickness_limits r c (omega arith)) (thickness_limits s d h)

    row_link_lem : (d : ℕ) → d < g.columns + 2 → Link (row_link g r c d)
    row_link_lem d h = let s = stepped g.steps _ p.steps in link_to (factors_of g.steps).along r d (s.along_some, s.along_low) (omega arith)

    column_link_lem : (s : ℕ) → s < g.rows + 2 → Link (column_link g r c s)
    column_link_lem s h = let t = stepped g.steps _ p.steps in link_to (factors_of g.steps).across s c (t.across_some, t.across_low) (omega arith)

    diagonal_formed : (1 ≤ formed_diagonal g r c) × (formed_diagonal g r c ≤ diagonal_limit)
    diagonal_formed =
        diagonal_limits (row_link_lem (c - 1) (omega arith)) (row_link_lem (c + 1) (omega arith)) (column_link_lem (r - 1) (omega arith))
        (column_link_lem (r + 1) (omega arith))

    right_formed : formed_right g r c ≤ link_limit
    right_formed = link_if_lem (ltb c g.columns) (row_link_lem (c + 1) (omega arith))

    up_formed : formed_up g r c ≤ link_limit
    up_formed = link_if_lem (ltb r g.rows) (column_link_lem (r + 1) (omega arith))

    source_formed : nat_abs (formed_source g r c) ≤ source_limit
    source_formed =
        source_limit_lem g.wedge _ _ (wedge_low p) (thickness_limits r (c + 1) (omega arith)).1
        (thickness_limits r (c - 1) (omega arith)).1

  -- the cell with index i
  cell_formed : (i : ℕ) → i < g.rows * g.columns → LimitedCell (formed g) i
  cell_formed i h =
      let some = (gauge_shape g p.shape).columns_some in
      let row : i / g.columns < g.rows = (div-lt_iff_lt-mul some).1 h in
      let column : i % g.columns < g.columns = mod-lt i some in
      let r = i / g.columns + 1 in
      let c = i % g.columns + 1 in
      let w : (r ≤ g.rows) × (c ≤ g.columns) = omega arith in
      record {
        diagonal_some = at (formed_diagonal g) 0 (λ d. 1 ≤ d) (diagonal_formed r c w).0;
        diagonal_low = at (formed_diagonal g) 0 (λ d. d ≤ diagonal_limit) (diagonal_formed r c w).1;
        right_low = at (formed_right g) 0 (λ k. k ≤ link_limit) (right_formed r c w);
        up_low = at (formed_up g) 0 (λ k. k ≤ link_limit) (up_formed r c w);
        right_edge = λ e. at (formed_right g) 0 (λ k. k ≡ 0) (rw (le-ltb c g.columns e));
        up_edge = λ e. at (formed_up g) 0 (λ k. k ≡ 0) (rw (le-ltb r g.rows e));
        source_low = at (formed_source g) (pos 0) (λ z. nat_abs z ≤ source_limit) (source_formed r c w);
      }
    where
      -- what holds of a cell's number holds of its place in the list of all
      at : {A : Type 0} (number : ℕ → ℕ → A) (d : A) (P : A → Type 0) → P (by_cell g number i)
          → P (get_or (tabulate (g.rows * g.columns) (by_cell g number)) i d)
      at number d P = subst P (sym (tabulate_at (g.rows * g.columns) (by_cell g number) d i h))

  sized_formed : length g.weights ≡ cells g.rows g.columns → Sized (formed g)
  sized_formed e =
      let s = gauge_shape g p.shape in
      let top = within g.ceiling 1 ceiling_limit (fail_if_pass _ 5 ceiling_offset p.ceiling) in
      record {
        rows_some = s.rows_some;
        rows_low = s.rows_low;
        columns_some = s.columns_some;
        columns_low = s.columns_low;
        ceiling_some = top.0;
        ceiling_low = top.1;
        weights_len = e;
        diagonals_len = tabulate_length _ _;
        rights_len = tabulate_length _ _;
        ups_len = tabulate_length _ _;
        sources_len = tabulate_length _ _;
      }

  -- Coefficients formed from a film's numbers are within their limits where all tests but that of dominance pass; ..
  pub formed_limited : length g.weights ≡ cells g.rows g.columns → Limited (formed g)
  formed_limited e = record { sized = sized_formed e; cell = cell_formed }

-- .. where that one passes too, they are accepted.
pub formed_accepted : (g : Gauge) → Values g → gauge_check g true ≡ pass → Accepted (formed g)
unfolding gauge_dominance not_dominant
formed_accepted g v e =
    let p = gauge_passes g e in
    let n = cells g.rows g.columns in
    let none = fail_first_pass (λ i. eqb (get_or g.weights i 0) 0) n 6 (λ i. weights_offset + 2 * i) p.weights in
    record {
      limited = formed_limited g p.numbers v.weights_len;
      weight = λ i h. omega (arith, eqb-false (get_or g.weights i 0) 0 (none i h));
      dominant = fail_first_pass (not_dominant (formed g)) n 9 (λ i. i) p.dominant;
    }

-- and back: numbers whose coefficients are accepted pass the tests of their weights too.
pub accepted_gauge : (g : Gauge) → NumbersPassed g → Accepted (formed g) → GaugePassed g
unfolding gauge_dominance not_dominant
accepted_gauge g p A =
    let n = cells g.rows g.columns in
    record {
      numbers = p;
      weights = pass_first (λ i. eqb (get_or g.weights i 0) 0) n 6 (λ i. weights_offset + 2 * i) (λ i h. ne_eqb (get_or g.weights i 0) 0 (λ e. omega (arith, A.weight i h)));
      dominant = pass_first (not_dominant (formed g)) n 9 (λ i. i) A.dominant;
    }
