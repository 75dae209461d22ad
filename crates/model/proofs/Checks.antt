-- What a passed test says of a film, and what the theory needs of it: weights that show dominance, and a bounded start.
use mathlib.Core.Path.{◌≡◌, refl, sym, ap, ◌∙◌}
use mathlib.Core.Bool.{Bool, true, false, ◌&&◌, ◌||◌, true≢false, false≢true}
use mathlib.Core.List.{List}
use Prim.Native.Nat.{ℕ, ◌+◌, ◌*◌, ◌≤◌, ◌<◌}
use native.Mathlib.Nat.{mul-pos}
use native.Mathlib.Omega.{arith}
use borrow.Author.Tests.{ltb-false, leb-false, eqb-true, eqb-false, le-leb, not-false}
use lib.Dec.{leb, ltb, eqb}
use lib.IntN.{pos}
use lib.ListN.{length, get_or}
use Rattle.monotone.specs.Rule.{Bounded}
use Rattle.monotone.specs.Linear.{Positive, Dominant}
use Rattle.monotone.proofs.Linear.{dominant_positive}
use Rattle.model.specs.Limits.{side_limit, ceiling_limit, diagonal_limit}
use Rattle.model.specs.Lists.{first_of}
use Rattle.model.specs.Integers.{at_most_zero}
use Rattle.model.specs.Refusals.{Check, pass, fail, ◌or_else◌, fail_if, fail_first}
use Rattle.model.specs.Film.{Film, size_of, row_of, column_of, diagonal_at, right_at, up_at, weight_at, pull_of, dominance, system_of, rule}
use Rattle.model.specs.Checks.{outside, shape_check, ceiling_check, film_fits, bad_coefficient, zero_weight, not_dominant, size_check, coefficient_check, weight_check, dominance_check, start_check, numeric_check, field_check}
use Rattle.model.specs.Result.{answered, refused, answer_by}
use Rattle.model.specs.Accepted.{Sized, LimitedCell, Limited, Accepted}
use Rattle.model.proofs.Lists.{first_miss, first_same}
use Rattle.model.proofs.Slacks.{slack_at_most_zero, bounded_cells}

-- Tests joined by `and` and by `or`.
pub and_parts : (a b : Bool) → (a && b) ≡ true → (a ≡ true) × (b ≡ true)
and_parts true b e = (refl, e)
and_parts false b e = absurd (false≢true e)

pub or_parts : (a b : Bool) → (a || b) ≡ false → (a ≡ false) × (b ≡ false)
or_parts true b e = absurd (true≢false e)
or_parts false b e = (refl, e)

-- Checks one after another, joined either way.
pub or_else_assoc : (x y z : Check) → ((x or_else y) or_else z) ≡ (x or_else y or_else z)
or_else_assoc pass y z = refl
or_else_assoc (fail number place) y z = refl

-- Where the whole passes, each does.
pub or_else_parts : (x y : Check) → (x or_else y) ≡ pass → (x ≡ pass) × (y ≡ pass)
or_else_parts pass y e = (refl, e)
or_else_parts (fail number place) y e = (e, cc)

-- and back: two tests pass where each does
pub pass_both : {x y : Check} → x ≡ pass → y ≡ pass → (x or_else y) ≡ pass
pass_both e f = rw (e, f)

-- a refusal is no pass
pub refused_passes : {X : Type 0} {number place : ℕ} → fail number place ≡ pass → X
refused_passes e = let z : ◌≡◌ {A = ℕ} 0 1 = cc in absurd (omega arith)

-- an answer that is no refusal comes from tests that passed
pub answer_passed : {A : Type 0} (c : Check) (b : A) {a : A} → answered a ≡ answer_by c b → (c ≡ pass) × (a ≡ b)
answer_passed pass b e = (refl, cc)
answer_passed (fail number place) b e = let z : ◌≡◌ {A = ℕ} 0 1 = cc in absurd (omega arith)

-- a refused one is what they failed with
pub refusal_of_lem : {A : Type 0} (c : Check) (a : A) {number place : ℕ} → answer_by c a ≡ refused number place → c ≡ fail number place
refusal_of_lem pass a e = let z : ◌≡◌ {A = ℕ} 0 1 = cc in absurd (omega arith)
refusal_of_lem (fail n k) a e = cc

pub fail_if_pass : (bad : Bool) (number place : ℕ) → fail_if bad number place ≡ pass → bad ≡ false
fail_if_pass true number place e = cc
fail_if_pass false number place e = refl

pub fail_first_pass : (bad : ℕ → Bool) (n number : ℕ) (place : ℕ → ℕ) → fail_first bad n number place ≡ pass → (i : ℕ) → i < n → bad i ≡ false
fail_first_pass bad n number place e = first_miss bad n (ltb-false _ _ (fail_if_pass _ number (place (first_of bad n)) e))

-- searches by tests that agree below n
pub fail_first_same : (bad other : ℕ → Bool) (n number : ℕ) (place : ℕ → ℕ) → ((i : ℕ) → i < n → bad i ≡ other i)
    → fail_first bad n number place ≡ fail_first other n number place
fail_first_same bad other n number place h = ap (λ k. fail_if (ltb k n) number (place k)) (first_same bad other n h)

-- what it says that a call's tests have all passed
pub record Passed (f : Film) (fits : Bool) (order start place : Check) : Type 0 where
  pub film : Accepted f
  pub fits_is : fits ≡ true
  pub order_is : order ≡ pass
  pub start_is : start ≡ pass
  pub place_is : place ≡ pass

-- a number from low to high
pub within : (x low high : ℕ) → outside x low high ≡ false → (low ≤ x) × (x ≤ high)
within x low high e = let t = or_parts (ltb x low) (ltb high x) e in (ltb-false _ _ t.0, ltb-false _ _ t.1)

-- a link that must be 0 at the grid's edge
edge : (a b link : ℕ) → (leb a b && ltb 0 link) ≡ false → a ≤ b → link ≡ 0
edge a b link e h = let z : ltb 0 link ≡ false = rw (le-leb a b h) at e in omega (arith, ltb-false 0 link z)

pub fits_lengths : (f : Film) → film_fits f ≡ true
    → (length f.weights ≡ size_of f) × (length f.diagonals ≡ size_of f) × (length f.rights ≡ size_of f)
    × (length f.ups ≡ size_of f) × (length f.sources ≡ size_of f)
unfolding film_fits
fits_lengths f e =
    let d = and_parts _ _ e in
    let c = and_parts _ _ d.0 in
    let b = and_parts _ _ c.0 in
    let a = and_parts _ _ b.0 in
    (eqb-true _ _ a.0, eqb-true _ _ a.1, eqb-true _ _ b.1, eqb-true _ _ c.1, eqb-true _ _ d.1)

-- Passed tests of a film, stage by stage.
pub size_passes : (f : Film) (fits : Bool) → size_check f fits ≡ pass → Sized f × (fits ≡ true)
unfolding size_check
size_passes f fits e =
    let shape = or_else_parts (shape_check f.rows 0 f.columns 0) _ e in
    let ceiling = or_else_parts (ceiling_check f.ceiling 0) _ shape.1 in
    let sides = or_else_parts (fail_if (outside f.rows 1 side_limit) 4 0) _ shape.0 in
    let rows = within f.rows 1 side_limit (fail_if_pass _ 4 0 sides.0) in
    let columns = within f.columns 1 side_limit (fail_if_pass _ 4 0 sides.1) in
    let top = within f.ceiling 1 ceiling_limit (fail_if_pass _ 5 0 ceiling.0) in
    let fit = and_parts (film_fits f) fits (not-false _ (fail_if_pass _ 10 0 ceiling.1)) in
    let lengths = fits_lengths f fit.0 in (
      record {
        rows_some = rows.0;
        rows_low = rows.1;
        columns_some = columns.0;
        columns_low = columns.1;
        ceiling_some = top.0;
        ceiling_low = top.1;
        weights_len = lengths.0;
        diagonals_len = lengths.1;
        rights_len = lengths.2;
        ups_len = lengths.3;
        sources_len = lengths.4;
      },
      fit.1,
    )

cell_limited : (f : Film) (i : ℕ) → bad_coefficient f i ≡ false → LimitedCell f i
unfolding bad_coefficient
cell_limited f i e =
    let k5 = or_parts _ _ e in
    let k4 = or_parts _ _ k5.0 in
    let k3 = or_parts _ _ k4.0 in
    let k2 = or_parts _ _ k3.0 in
    let k1 = or_parts _ _ k2.0 in
    let d = within (diagonal_at f i) 1 diagonal_limit k1.0 in
    record {
      diagonal_some = d.0;
      diagonal_low = d.1;
      right_low = ltb-false _ _ k1.1;
      up_low = ltb-false _ _ k2.1;
      right_edge = edge f.columns (column_of f i + 1) (right_at f i) k3.1;
      up_edge = edge f.rows (row_of f i + 1) (up_at f i) k4.1;
      source_low = ltb-false _ _ k5.1;
    }

pub coefficient_passes : (f : Film) → Sized f → coefficient_check f ≡ pass → Limited f
unfolding coefficient_check
coefficient_passes f s e =
    record { sized = s; cell = λ i b. cell_limited f i (fail_first_pass _ _ 14 (λ i. i) e i b) }

pub weights_pass : (f : Film) → Limited f → weight_check f ≡ pass → dominance_check f ≡ pass → Accepted f
unfolding weight_check dominance_check zero_weight not_dominant
weights_pass f l w d =
    record {
      limited = l;
      weight = λ i b. omega (arith, eqb-false (weight_at f i) 0 (fail_first_pass _ _ 6 (λ i. i) w i b));
      dominant = λ i b. fail_first_pass _ _ 9 (λ i. i) d i b;
    }

-- Where a call's tests all pass, the film is accepted, and so is the call's own input.
pub check_passes : (f : Film) (fits : Bool) (order start place : Check) → numeric_check f fits order start place ≡ pass
    → Passed f fits order start place
check_passes f fits order start place e =
    let size = or_else_parts (size_check f fits) _ e in
    let coefficient = or_else_parts (coefficient_check f) _ size.1 in
    let weight = or_else_parts (weight_check f) _ coefficient.1 in
    let row_sum = or_else_parts (dominance_check f) _ weight.1 in
    let ordered = or_else_parts order _ row_sum.1 in
    let started = or_else_parts start place ordered.1 in
    let sized = size_passes f fits size.0 in
    record {
      film = weights_pass f (coefficient_passes f sized.0 coefficient.0) weight.0 row_sum.0;
      fits_is = sized.1;
      order_is = ordered.0;
      start_is = started.0;
      place_is = started.1;
    }

-- an accepted film's weights show that its matrix is Minkowski
pub accepted_dominant : {f : Film} → Accepted f → Dominant (system_of f) (weight_at f)
accepted_dominant {f} A =
    record { some = mul-pos A.limited.sized.rows_some A.limited.sized.columns_some; row = λ i h. holds i (A.dominant i h) }
  where
    holds : (i : ℕ) → at_most_zero (dominance f i) ≡ false → pull_of f f.weights i < diagonal_at f i * weight_at f i
    holds i e =
        let sign = slack_at_most_zero (diagonal_at f i) (pull_of f f.weights i) (pos 0) (weight_at f i) in
        omega (arith, leb-false (diagonal_at f i * weight_at f i + 0) (pull_of f f.weights i + 0) (sym sign ∙ e))

pub accepted_positive : {f : Film} → Accepted f → Positive (system_of f)
accepted_positive A = dominant_positive (accepted_dominant A)

-- a start that passes its test is bounded
pub start_bounded : (f : Film) (p : List ℕ) → length p ≡ size_of f → start_check f p ≡ pass → Bounded (rule f) p
start_bounded f p e s =
    bounded_cells e (λ i h. ltb-false _ _ (fail_first_pass (λ j. ltb f.ceiling (get_or p j 0)) (size_of f) 12 (λ j. j) s i h))

-- where the tests of a call that takes a field too have all passed
pub record FieldPassed (f : Film) (p : List ℕ) (fits : Bool) (order place : Check) : Type 0 where
  pub film : Accepted f
  pub bounded : Bounded (rule f) p
  pub fits_is : fits ≡ true
  pub order_is : order ≡ pass
  pub place_is : place ≡ pass

pub field_passes : (f : Film) (p : List ℕ) (fits : Bool) (order place : Check) → field_check f p fits order place ≡ pass
    → FieldPassed f p fits order place
field_passes f p fits order place e =
    let P = check_passes f (eqb (length p) (size_of f) && fits) order (start_check f p) place e in
    let t = and_parts (eqb (length p) (size_of f)) fits P.fits_is in
    record {
      film = P.film;
      bounded = start_bounded f p (eqb-true _ _ t.0) P.start_is;
      fits_is = t.1;
      order_is = P.order_is;
      place_is = P.place_is;
    }
