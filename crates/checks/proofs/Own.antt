-- Document 01's order of tests, from those that every call has.
use mathlib.Core.Path.{◌≡◌, sym, ◌∙◌}
use mathlib.Core.Bool.{Bool, true, not, ◌&&◌}
use mathlib.Core.List.{List}
use Prim.Native.Nat.{ℕ, ◌+◌, ◌*◌}
use borrow.Author.Tests.{eqb-true}
use lib.Dec.{ltb, eqb}
use lib.ListN.{length, get_or}
use Rattle.model.specs.Refusals.{Check, pass, ◌or_else◌, fail_if, fail_first}
use Rattle.model.specs.Film.{Film, size_of}
use Rattle.model.specs.Checks.{shape_check, ceiling_check, film_fits, zero_weight, size_check, weight_check, start_check, numeric_check, film_check, field_check}
use Rattle.model.specs.Accepted.{Sized}
use Rattle.model.proofs.Checks.{and_parts, or_else_assoc, or_else_parts, size_passes}
use Rattle.refusals.proofs.Chain.{or_else_pass, or_else_given}
use Rattle.refusals.proofs.Search.{one_apart_from_0}
use Rattle.checks.specs.Own.{own_check}

-- document 01's order of tests: those that every call has, then 11, 12 and 13
pub numeric_own : (f : Film) (fits : Bool) (order start place : Check)
    → numeric_check f fits order start place ≡ (own_check f fits or_else order or_else start or_else place)
numeric_own f fits order start place = simp or_else_assoc

-- a call that takes a film alone
pub film_own : (f : Film) → film_check f ≡ own_check f true
film_own f = numeric_own f true pass pass pass ∙ or_else_pass (own_check f true)

-- a call that takes a field too: the field's own length may stand for N, since refusal 10 comes before 12
pub field_own : (f : Film) (p : List ℕ) (fits : Bool) (order place : Check) {r : Check}
    → (let start = fail_first (λ i. ltb f.ceiling (get_or p i 0)) (length p) 12 (λ i. i) in
    r ≡ (own_check f (eqb (length p) (size_of f) && fits) or_else order or_else start or_else place))
    → r ≡ field_check f p fits order place
field_own f p fits order place h =
    h ∙ or_else_given (own_check f whole) (λ e. rw (same e)) ∙ sym (numeric_own f whole order (start_check f p) place)
  where
    whole : Bool
    whole = eqb (length p) (size_of f) && fits

    same : own_check f whole ≡ pass → length p ≡ size_of f
    same e = eqb-true _ _ (and_parts _ fits (size_passes f whole (or_else_parts (size_check f whole) _ e).0).1).0

-- ---- what the code's tests find, of a film that it has under another name

-- the lengths that it counts may be those of the film
module _ {f g : Film} (same : g ≡ f) {r : Check} where
  pub size_is : (fits : Bool) {fit : Bool} → fit ≡ film_fits f
      → r ≡ (shape_check g.rows 0 g.columns 0 or_else ceiling_check g.ceiling 0 or_else fail_if (not (fit && fits)) 10 0) → r ≡ size_check f fits
  unfolding size_check
  size_is fits e h = rw (same, e) at h

  pub weights_are : Sized f → r ≡ fail_first (λ i. eqb (get_or g.weights i 0) 0) (length g.weights) 6 (λ i. 0 + 1 * i) → r ≡ weight_check f
  unfolding weight_check zero_weight
  weights_are s h = rw (same, s.weights_len) at (h ∙ one_apart_from_0 _ _ 6)

  pub whole_is : (p : List ℕ) (fits : Bool) {n : ℕ} → n ≡ g.rows * g.columns → r ≡ own_check f (eqb (length p) n && fits)
      → r ≡ own_check f (eqb (length p) (size_of f) && fits)
  whole_is p fits e h = rw (e, same) at h

  pub start_is : (p : List ℕ) → r ≡ fail_first (λ i. ltb g.ceiling (get_or p i 0)) (length p) 12 (λ i. i)
      → r ≡ fail_first (λ i. ltb f.ceiling (get_or p i 0)) (length p) 12 (λ i. i)
  start_is p h = rw same at h
