-- What a film, a field and a cell are that have passed their tests.
use mathlib.Core.Path.{◌≡◌, sym, ◌∙◌}
use mathlib.Core.Bool.{true}
use mathlib.Core.List.{List}
use Prim.Native.Nat.{ℕ, ◌<◌}
use Rattle.std.specs.Prelude.{Result, Ok}
use borrow.Author.Tests.{leb-false}
use lib.Dec.{leb}
use lib.ListN.{length}
use Rattle.model.specs.Refusals.{Check, pass, fail_if, check_of}
use Rattle.model.specs.Film.{Film, size_of}
use Rattle.model.specs.Checks.{field_check}
use Rattle.model.specs.Accepted.{Limited}
use Rattle.model.specs.declared.Refusal.{Refusal}
use Rattle.model.proofs.Checks.{fail_if_pass, field_passes}
use Rattle.refusals.proofs.Chain.{passed}

pub record PointPassed (f : Film) (p : List ℕ) (i : ℕ) : Type 0 where
  pub limited : Limited f
  pub field : (length p ≡ size_of f) × (i < size_of f)

-- from what the tests answered: t of the film and the field, and x of the cell
pub point_ready : (f : Film) (p : List ℕ) (i : ℕ) {n : ℕ} {t : Result (Unit {0}) Refusal} {x : Check} {a : Unit {0}} → check_of t ≡ field_check f p true pass x
    → x ≡ fail_if (leb n i) 13 0 → t ≡ Ok a → n ≡ size_of f → PointPassed f p i
point_ready f p i {n} {x = x} tested inside ok size =
    let P = field_passes f p true pass x (passed tested ok) in
    record {
      limited = P.film.limited;
      field = (P.bounded.len, rw (← size) (leb-false _ _ (fail_if_pass (leb n i) 13 0 (sym inside ∙ P.place_is))));
    }
