-- Checks one after another, and the code that tells them: `?` goes on where a test is Ok.
use mathlib.Core.Path.{◌≡◌, refl, sym, ap, ◌∙◌}
use Rattle.std.specs.Prelude.{Result, Ok, Err}
use Rattle.fault.specs.Numbers.{number_of}
use Rattle.model.specs.Refusals.{Check, pass, fail, check_of, ◌or_else◌}
use Rattle.model.specs.declared.Refusal.{Refusal}

pub or_else_pass : (x : Check) → (x or_else pass) ≡ x
or_else_pass pass = refl
or_else_pass (fail number place) = refl

-- what comes after a check counts only where it passes
pub or_else_given : (x : Check) {y z : Check} → (x ≡ pass → y ≡ z) → (x or_else y) ≡ (x or_else z)
or_else_given pass h = h refl
or_else_given (fail number place) h = refl

-- two checks joined, from what each is
pub joined : {r x y x' y' : Check} → r ≡ (x or_else y) → x ≡ x' → y ≡ y' → r ≡ (x' or_else y')
joined e p q = rw (p, q) at e

-- A test that finds check x.
module _ {A : Type 0} {t : Result A Refusal} {x : Check} (found : check_of t ≡ x) where
  pub passed : {a : A} → t ≡ Ok a → x ≡ pass
  passed e = sym found ∙ ap check_of e

  -- the answer r of a call that goes on where the test is Ok, and is refused where it is not
  pub goes_on : {a : A} {r y : Check} → t ≡ Ok a → r ≡ y → r ≡ (x or_else y)
  goes_on {a} {r} {y} e h = h ∙ ap (λ (z : Check). z or_else y) (sym (passed e))

  pub refuses : {q : Refusal} (y : Check) → t ≡ Err q → fail (number_of q.fault) q.place ≡ (x or_else y)
  refuses y e = ap (λ (z : Check). z or_else y) (sym (ap check_of e) ∙ found)
