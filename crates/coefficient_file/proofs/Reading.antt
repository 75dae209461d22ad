-- The reader by what its tests find.
use mathlib.Core.Path.{◌≡◌, refl, sym, ap, ◌∙◌, subst}
use mathlib.Core.Bool.{not}
use mathlib.Core.List.{List}
use Prim.Native.Nat.{ℕ}
use borrow.Author.Tests.{eqb-true, not-false}
use lib.Dec.{eqb}
use lib.IntN.{ℤ}
use lib.ListN.{length}
use Rattle.model.specs.Refusals.{Check, pass, fail, ◌or_else◌, fail_if}
use Rattle.model.specs.File.{fields_check}
use Rattle.model.specs.Result.{Answer, refused}
use Rattle.model.specs.CoefficientFile.{coefficient_fields_in, film_in, coefficient_file_check}
use Rattle.model.specs.CoefficientCalls.{buffers_fit, coefficient_load_check, LoadsFilm, LoadsCoefficients}
use Rattle.model.specs.declared.Head.{Head}
use Rattle.model.proofs.Checks.{and_parts, or_else_assoc, or_else_parts, fail_if_pass}
use Rattle.coefficient_reading.specs.Reading.{Buffers, rest_check}

module _ (bytes weights diagonals rights ups : List ℕ) (sources : List ℤ) where
  -- the tests that come before 14, 9, 16 and 17: the lent buffers, and the file's fields
  abbrev pub opening : Check
  opening = fail_if (not (buffers_fit weights diagonals rights ups sources)) 10 0 or_else fields_check (coefficient_fields_in bytes) bytes

  load_parts : coefficient_load_check bytes weights diagonals rights ups sources ≡ (opening or_else rest_check bytes)
  unfolding coefficient_file_check
  load_parts = sym (or_else_assoc (fail_if (not (buffers_fit weights diagonals rights ups sources)) 10 0) _ _)

  -- what it says that they have passed
  pub opening_passes : opening ≡ pass → (fields_check (coefficient_fields_in bytes) bytes ≡ pass) × Buffers weights diagonals rights ups sources
  opening_passes e =
      let a = or_else_parts (fail_if (not (buffers_fit weights diagonals rights ups sources)) 10 0) _ e in
      let s = and_parts _ (eqb (length sources) 1024) (not-false _ (fail_if_pass _ 10 0 a.0)) in
      let u = and_parts _ (eqb (length ups) 1024) s.0 in
      let r = and_parts _ (eqb (length rights) 1024) u.0 in
      let d = and_parts (eqb (length weights) 1024) (eqb (length diagonals) 1024) r.0 in
      (a.1, record { weights_len = eqb-true _ _ d.0; diagonals_len = eqb-true _ _ d.1; rights_len = eqb-true _ _ r.1; ups_len = eqb-true _ _ u.1; sources_len = eqb-true _ _ s.1 })

  module _ {answer : Answer Head} {weights' diagonals' rights' ups' : List ℕ} {sources' : List ℤ} where
    -- what is given where the tests find c
    loads_by : {c : Check} → coefficient_load_check bytes weights diagonals rights ups sources ≡ c
        → LoadsFilm c (film_in bytes) weights diagonals rights ups sources answer weights' diagonals' rights' ups' sources'
        → LoadsCoefficients bytes weights diagonals rights ups sources answer weights' diagonals' rights' ups' sources'
    loads_by e = subst (λ c. LoadsFilm c (film_in bytes) weights diagonals rights ups sources answer weights' diagonals' rights' ups' sources') (sym e)

    pub load_opened : opening ≡ pass
        → LoadsFilm (rest_check bytes) (film_in bytes) weights diagonals rights ups sources answer weights' diagonals' rights' ups' sources'
        → LoadsCoefficients bytes weights diagonals rights ups sources answer weights' diagonals' rights' ups' sources'
    load_opened e = loads_by (load_parts ∙ ap (λ x. x or_else rest_check bytes) e)

  pub load_refused : {number place : ℕ} → opening ≡ fail number place
      → LoadsCoefficients bytes weights diagonals rights ups sources (refused number place) weights diagonals rights ups sources
  load_refused e =
      loads_by (load_parts ∙ ap (λ x. x or_else rest_check bytes) e)
      (record { answer_is = refl; weights_are = refl; diagonals_are = refl; rights_are = refl; ups_are = refl; sources_are = refl })
