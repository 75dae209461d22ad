-- A film file of either kind (document 02, W1): an accepted one is of one kind alone, its film is accepted by every call, and a converted
-- gauged film is the same film.
use mathlib.Core.Path.{◌≡◌, refl, sym, ap, ◌∙◌, subst}
use mathlib.Core.Bool.{Bool, true, false, cond}
use mathlib.Core.List.{List, [], ◌∷◌}
use Prim.Native.Nat.{ℕ}
use native.Mathlib.Omega.{arith}
use lib.Dec.{eqb}
use Rattle.model.specs.Refusals.{pass, fail, ◌or_else◌}
use Rattle.model.specs.Gauge.{Gauge}
use Rattle.model.specs.Film.{Film}
use Rattle.model.specs.Coefficients.{formed}
use Rattle.model.specs.Checks.{coefficient_check, film_check}
use Rattle.model.specs.Weighing.{held_check}
use Rattle.model.specs.Accepted.{Accepted}
use Rattle.model.specs.Result.{Answer, answered, refused, answer_by}
use Rattle.model.specs.Fields.{fields_end, field_test, walk, present}
use Rattle.model.specs.File.{shape_field, ceiling_field, weights_field, thicknesses_field, wedge_field, opening, gauged_optional, cells_in, ring_in, weightless, carried_in, gauged_parts, gauged_in, numbers_in, gauge_in, fields_check, file_check, read_film, Bytes}
use Rattle.model.specs.CoefficientFile.{diagonals_field, rights_field, ups_field, sources_field, coefficients_in, film_in, coefficient_fields_in, coefficient_file_check, read_coefficients, coefficient_file_of}
use Rattle.model.specs.EitherFile.{tagged06, formed_by, read_either}
use Rattle.model.specs.Report.{report_by, report_of}
use Rattle.model.proofs.Opening.{tag_refused, opening_refused}
use Rattle.model.proofs.File.{read_values, read_continues}
use Rattle.model.proofs.Forming.{accepted_passes, formed_accepted}
use Rattle.model.proofs.CoefficientFile.{coefficients_accepted, coefficients_continue, converted_reads}

-- ---- what the readers refuse

-- where a reader's test of the fields fails, that is its refusal
module _ (bytes : List ℕ) {number place : ℕ} where
  gauged_fails : fields_check (gauged_in bytes) bytes ≡ fail number place → read_film bytes ≡ refused number place
  unfolding file_check
  gauged_fails e = ap (λ c. answer_by (c or_else held_check (weightless bytes) (formed (numbers_in bytes))) (gauge_in bytes)) e

  coefficients_fail : fields_check (coefficient_fields_in bytes) bytes ≡ fail number place → read_coefficients bytes ≡ refused number place
  unfolding coefficient_file_check
  coefficients_fail e = ap (λ c. answer_by (c or_else coefficient_check (coefficients_in bytes) or_else held_check (weightless bytes) (coefficients_in bytes)) (film_in bytes)) e

-- What fields 01 to 03 are refused for, both readers refuse alike: which one is chosen shows only once they pass.
pub refused_alike : (bytes : List ℕ) (number place : ℕ) → walk (opening (carried_in bytes)) bytes 0 ≡ fail number place
    → (read_film bytes ≡ refused number place) × (read_coefficients bytes ≡ refused number place)
refused_alike bytes number place e =
    let n = cells_in bytes in (
      gauged_fails bytes (opening_refused bytes (thicknesses_field (ring_in bytes) ∷ wedge_field ∷ present gauged_optional (gauged_parts bytes)) number place e),
      coefficients_fail bytes (opening_refused bytes (diagonals_field n ∷ rights_field n ∷ ups_field n ∷ sources_field n ∷ []) number place e),
    )

-- so is what field 01 is refused for, however many cells its shape says
pub shape_refused : (bytes : List ℕ) (number place : ℕ) → field_test shape_field bytes 0 ≡ fail number place → read_either bytes ≡ refused number place
shape_refused bytes number place e =
    let r = refused_alike bytes number place (ap (λ c. c or_else walk (ceiling_field ∷ weights_field (carried_in bytes) ∷ []) bytes 5) e) in
    go (tagged06 bytes) r
  where
    go : (b : Bool) → (read_film bytes ≡ refused number place) × (read_coefficients bytes ≡ refused number place)
        → cond b (read_coefficients bytes) (formed_by (read_film bytes)) ≡ refused number place
    go true r = r.1
    go false r = ap formed_by r.0

-- The reader of gauged films refuses a coefficient film with 2 at tag 06, and the other way round.
pub coefficients_not_gauged : (bytes : List ℕ) (f : Film) → read_coefficients bytes ≡ answered f
    → read_film bytes ≡ refused 2 (fields_end (opening (carried_in bytes)) 0)
coefficients_not_gauged bytes f e =
    gauged_fails bytes (tag_refused bytes (thicknesses_field (ring_in bytes)) (wedge_field ∷ present gauged_optional (gauged_parts bytes)) 6 (coefficients_continue bytes f e) refl)

pub gauged_not_coefficients : (bytes : List ℕ) (g : Gauge) → read_film bytes ≡ answered g
    → read_coefficients bytes ≡ refused 2 (fields_end (opening (carried_in bytes)) 0)
gauged_not_coefficients bytes g e =
    let n = cells_in bytes in
    coefficients_fail bytes (tag_refused bytes (diagonals_field n) (rights_field n ∷ ups_field n ∷ sources_field n ∷ []) 4 (read_continues bytes g e) refl)

-- ---- an accepted file of either kind

-- the tag chooses the reader that accepts it
pub gauged_either : (bytes : List ℕ) (g : Gauge) → read_film bytes ≡ answered g → read_either bytes ≡ answered (formed g)
gauged_either bytes g e =
    ap (λ t. cond (eqb t 6) (read_coefficients bytes) (formed_by (read_film bytes))) (read_continues bytes g e).tag_is ∙ ap formed_by e

pub coefficients_either : (bytes : List ℕ) (f : Film) → read_coefficients bytes ≡ answered f → read_either bytes ≡ answered f
coefficients_either bytes f e =
    ap (λ t. cond (eqb t 6) (read_coefficients bytes) (formed_by (read_film bytes))) (coefficients_continue bytes f e).tag_is ∙ e

-- and it is of one of the two kinds
pub data Kind (bytes : List ℕ) (f : Film) : Type 0 where
  by_gauge : (g : Gauge) → read_film bytes ≡ answered g → formed g ≡ f → Kind bytes f
  by_coefficients : read_coefficients bytes ≡ answered f → Kind bytes f

pub kind_of_lem : (bytes : List ℕ) (f : Film) → read_either bytes ≡ answered f → Kind bytes f
kind_of_lem bytes f e = go (tagged06 bytes) e
  where
    by : (a : Answer Gauge) → read_film bytes ≡ a → formed_by a ≡ answered f → Kind bytes f
    by (answered g) r e = by_gauge g r cc
    by (refused number place) r e = let z : ◌≡◌ {A = ℕ} 0 1 = cc in absurd (omega arith)

    go : (b : Bool) → cond b (read_coefficients bytes) (formed_by (read_film bytes)) ≡ answered f → Kind bytes f
    go true e = by_coefficients e
    go false e = by (read_film bytes) refl e

-- Its film passes the tests of every call.
pub either_accepted : (bytes : List ℕ) (f : Film) → Bytes bytes → read_either bytes ≡ answered f → Accepted f
either_accepted bytes f B e = go (kind_of_lem bytes f e)
  where
    go : Kind bytes f → Accepted f
    go (by_gauge g r same) = let v = read_values bytes g B r in subst Accepted same (formed_accepted g v.0 v.1)
    go (by_coefficients r) = coefficients_accepted bytes f r

pub file_film : (bytes : List ℕ) (f : Film) → Bytes bytes → read_either bytes ≡ answered f → film_check f ≡ pass
file_film bytes f B e = accepted_passes f (either_accepted bytes f B e)

-- ---- what is converted

-- A gauged film's file and the converter's file of it have the same film: so every list of runs and proposals, and the report, are the same.
pub converted_same : (bytes : List ℕ) (g : Gauge) → Bytes bytes → read_film bytes ≡ answered g
    → read_either (coefficient_file_of (formed g)) ≡ read_either bytes
converted_same bytes g B e =
    let v = read_values bytes g B e in
    coefficients_either (coefficient_file_of (formed g)) (formed g) (converted_reads g v.0 v.1) ∙ sym (gauged_either bytes g e)

pub converted_report : (bytes : List ℕ) (g : Gauge) → Bytes bytes → read_film bytes ≡ answered g
    → report_of (coefficient_file_of (formed g)) ≡ report_of bytes
converted_report bytes g B e = ap report_by (converted_same bytes g B e)
