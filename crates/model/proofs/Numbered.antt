-- The numbers that tests refuse with. None is 0: so a caller who is told numbers alone, and gets 0, knows that the call answered. And all but those of a search for weights are below 16.
use mathlib.Core.Path.{◌≡◌, refl, subst}
use mathlib.Core.Bool.{Bool, true, false, not, ◌&&◌, false≢true}
use mathlib.Core.List.{List, [], ◌∷◌, ◌++◌}
use Prim.Native.Nat.{ℕ, ◌+◌, ◌*◌, ◌<◌}
use native.Mathlib.Omega.{arith}
use borrow.Author.Tests.{ltb-true}
use lib.Dec.{ltb, eqb}
use lib.IntN.{ℤ, nat_abs}
use lib.ListN.{length, get_or}
use Rattle.model.specs.Limits.{side_limit, ceiling_limit, thickness_limit, wedge_limit, step_limit}
use Rattle.model.specs.Lists.{first_of}
use Rattle.model.specs.Refusals.{Check, pass, fail, ◌or_else◌, fail_if, fail_first, Numbered}
use Rattle.model.specs.Film.{Film, size_of}
use Rattle.model.specs.Coefficients.{formed}
use Rattle.model.specs.Checks.{outside, film_fits, bad_coefficient, zero_weight, not_dominant, size_check, coefficient_check, weight_check, dominance_check, order_check, line_check, field_check}
use Rattle.model.specs.Bytes.{byte_at, word_at, long_at, signed_of}
use Rattle.model.specs.Fields.{Field, body, behind, fields_end, field_at, walk, Optional, absent, given, present}
use Rattle.model.specs.File.{shape_field, ceiling_field, weights_field, thicknesses_field, wedge_field, steps_field, gauged, gauged_optional, cells_in, ring_in, weightless, carried_in, gauged_parts, gauged_in, numbers_in, fields_check, file_check}
use Rattle.model.specs.FileCalls.{load_check}
use Rattle.model.specs.CoefficientFile.{coefficient_fields, coefficients_in, coefficient_fields_in, coefficient_file_check}
use Rattle.model.specs.CoefficientCalls.{buffers_fit, coefficient_load_check}
use Rattle.model.specs.Proposal.{row_check}
use Rattle.model.specs.Run.{RunAnswer, done, stopped, over, run_check}
use Rattle.model.specs.Weighing.{weight_search, searched_check, search_check, held_check}
use Rattle.model.proofs.Checks.{and_parts, pass_both}

-- ---- tests, and tests one after another

record Fails (P : ℕ → Type 0) (c : Check) : Type 0 where
  pub by : (number place : ℕ) → c ≡ fail number place → P number

by_pass : {P : ℕ → Type 0} → Fails P pass
by_pass = record { by = λ number place e. let z : ◌≡◌ {A = ℕ} 0 1 = cc in absurd (omega arith) }

by_or : {P : ℕ → Type 0} (x y : Check) → Fails P x → Fails P y → Fails P (x or_else y)
by_or pass y a b = b
by_or (fail number place) y a b = a

by_if : {P : ℕ → Type 0} (bad : Bool) (number place : ℕ) → P number → Fails P (fail_if bad number place)
by_if {P} true number place h = record { by = λ n q e. let z : number ≡ n = cc in subst P z h }
by_if false number place h = by_pass

by_first : {P : ℕ → Type 0} (bad : ℕ → Bool) (n number : ℕ) (place : ℕ → ℕ) → P number → Fails P (fail_first bad n number place)
by_first bad n number place h = by_if (ltb (first_of bad n) n) number (place (first_of bad n)) h

-- the numbers of document 01 and of coefficients and steps, which no search gives
abbrev Early : ℕ → Type 0
Early number = (ltb 0 number && ltb number 16) ≡ true

numbered : {c : Check} → Fails (λ number. 0 < number) c → Numbered c
numbered F = record { some = F.by }

some_number : {c : Check} → Fails Early c → Fails (λ number. 0 < number) c
some_number F = record { by = λ number place e. ltb-true _ _ (and_parts _ _ (F.by number place e)).0 }

-- ---- the calls that take coefficients

field_early : (f : Film) (p : List ℕ) (fits : Bool) (order place : Check) → Fails Early order → Fails Early place → Fails Early (field_check f p fits order place)
unfolding size_check coefficient_check weight_check dominance_check
field_early f p fits order place a b =
    let shape : Fails Early _ = by_or _ _ (by_if (outside f.rows 1 side_limit) 4 0 refl) (by_if (outside f.columns 1 side_limit) 4 0 refl) in
    let ceiling : Fails Early _ = by_if (outside f.ceiling 1 ceiling_limit) 5 0 refl in
    let room : Fails Early _ = by_if (not (film_fits f && (eqb (length p) (size_of f) && fits))) 10 0 refl in
    let coefficients : Fails Early _ = by_first (bad_coefficient f) (size_of f) 14 (λ i. i) refl in
    let weights : Fails Early _ = by_first (zero_weight f) (size_of f) 6 (λ i. i) refl in
    let dominance : Fails Early _ = by_first (not_dominant f) (size_of f) 9 (λ i. i) refl in
    let start : Fails Early _ = by_first (λ i. ltb f.ceiling (get_or p i 0)) (size_of f) 12 (λ i. i) refl in
    by_or _ _ (by_or _ _ shape (by_or _ _ ceiling room))
    (by_or _ _ coefficients (by_or _ _ weights (by_or _ _ dominance (by_or _ _ a (by_or _ _ start b)))))

pub run_numbered : (f : Film) (p : List ℕ) (order : ℕ) → Numbered (run_check f p order)
run_numbered f p order = numbered (some_number (field_early f p true (order_check order) pass (by_if (ltb 2 order) 11 0 refl) by_pass))

pub row_numbered : (f : Film) (p numbers : List ℕ) (line : ℕ) → Numbered (row_check f p numbers line)
row_numbered f p numbers line =
    numbered (some_number (field_early f p (eqb (length numbers) f.columns) pass (line_check f line) by_pass (by_if (outside line 1 f.rows) 13 0 refl)))

-- ---- the reader

-- each field's test of its values
abbrev AllEarly : List Field → Type 0
AllEarly [] = Unit {0}
AllEarly (f ∷ fs) = ((bytes : List ℕ) (at : ℕ) → Fails Early (f.check bytes at)) × AllEarly fs

field_at_early : (bytes : List ℕ) (at tag size : ℕ) → Fails Early (field_at bytes at tag size)
unfolding field_at
field_at_early bytes at tag size =
    by_or _ _ (by_if (ltb (length bytes) (body at)) 1 (length bytes) refl)
    (by_or _ _ (by_if (not (eqb (byte_at bytes at) tag)) 2 at refl)
    (by_or _ _ (by_if (not (eqb (word_at bytes (at + 1)) size)) 3 at refl) (by_if (ltb (length bytes) (behind at size)) 1 (length bytes) refl)))

walk_early : (fs : List Field) (bytes : List ℕ) (at : ℕ) → AllEarly fs → Fails Early (walk fs bytes at)
walk_early [] bytes at all = by_pass
walk_early (f ∷ fs) bytes at all =
    by_or _ _ (by_or _ _ (field_at_early bytes at f.tag f.size) (all.0 bytes (body at))) (walk_early fs bytes (behind at f.size) all.1)

shape_early : (bytes : List ℕ) (at : ℕ) → Fails Early (shape_field.check bytes at)
shape_early bytes at =
    by_or _ _ (by_if (outside (byte_at bytes at) 1 side_limit) 4 at refl) (by_if (outside (byte_at bytes (at + 1)) 1 side_limit) 4 (at + 1) refl)

ceiling_early : (bytes : List ℕ) (at : ℕ) → Fails Early (ceiling_field.check bytes at)
ceiling_early bytes at = by_if (outside (long_at bytes at) 1 ceiling_limit) 5 at refl

weights_early : (n : ℕ) (bytes : List ℕ) (at : ℕ) → Fails Early ((weights_field n).check bytes at)
weights_early n bytes at = by_first (λ i. eqb (word_at bytes (at + 2 * i)) 0) n 6 (λ i. at + 2 * i) refl

gauged_early : (n t : ℕ) → AllEarly (gauged n t)
gauged_early n t = (shape_early, (ceiling_early, (weights_early n, (thicknesses, (wedge, tt)))))
  where
    thicknesses : (bytes : List ℕ) (at : ℕ) → Fails Early ((thicknesses_field t).check bytes at)
    thicknesses bytes at = by_first (λ j. outside (byte_at bytes (at + j)) 1 thickness_limit) t 7 (λ j. at + j) refl

    wedge : (bytes : List ℕ) (at : ℕ) → Fails Early (wedge_field.check bytes at)
    wedge bytes at = by_if (ltb wedge_limit (nat_abs (signed_of (long_at bytes at)))) 8 at refl

coefficients_early : (w n : ℕ) → AllEarly (coefficient_fields w n)
coefficients_early w n = (shape_early, (ceiling_early, (weights_early w, (untested, (untested, (untested, (untested, tt)))))))
  where
    untested : (bytes : List ℕ) (at : ℕ) → Fails Early pass
    untested bytes at = by_pass

optional_early : AllEarly gauged_optional
optional_early = (factors, tt)
  where
    factors : (bytes : List ℕ) (at : ℕ) → Fails Early (steps_field.check bytes at)
    factors bytes at =
        by_or _ _ (by_if (outside (byte_at bytes at) 1 step_limit) 15 at refl) (by_if (outside (byte_at bytes (at + 1)) 1 step_limit) 15 (at + 1) refl)

-- those that are there, behind those that must be
all_present : (fs gs : List Field) (ps : List (Optional (List ℕ))) → AllEarly fs → AllEarly gs → AllEarly (fs ++ present gs ps)
all_present (f ∷ fs) gs ps a b = (a.0, all_present fs gs ps a.1 b)
all_present [] [] ps a b = tt
all_present [] (g ∷ gs) [] a b = tt
all_present [] (g ∷ gs) (absent ∷ ps) a b = all_present [] gs ps tt b.1
all_present [] (g ∷ gs) (given bytes ∷ ps) a b = (b.0, all_present [] gs ps tt b.1)

-- the fields of a file of either kind, and what follows them
fields_early : (fields : List Field) (bytes : List ℕ) → AllEarly fields → Fails Early (fields_check fields bytes)
fields_early fields bytes all =
    by_or _ _ (walk_early fields bytes 0 all) (by_if (ltb (fields_end fields 0) (length bytes)) 2 (fields_end fields 0) refl)

-- the fields that a file of either kind has
gauged_fields_early : (bytes : List ℕ) → Fails Early (fields_check (gauged_in bytes) bytes)
gauged_fields_early bytes =
    fields_early (gauged_in bytes) bytes
    (all_present (gauged (carried_in bytes) (ring_in bytes)) gauged_optional (gauged_parts bytes) (gauged_early (carried_in bytes) (ring_in bytes)) optional_early)

coefficient_fields_early : (bytes : List ℕ) → Fails Early (fields_check (coefficient_fields_in bytes) bytes)
coefficient_fields_early bytes = fields_early (coefficient_fields_in bytes) bytes (coefficients_early (carried_in bytes) (cells_in bytes))

coefficient_early : (f : Film) → Fails Early (coefficient_check f)
unfolding coefficient_check
coefficient_early f = by_first (bad_coefficient f) (size_of f) 14 (λ i. i) refl

dominance_early : (f : Film) → Fails Early (dominance_check f)
unfolding dominance_check
dominance_early f = by_first (not_dominant f) (size_of f) 9 (λ i. i) refl

-- 9, or 16 and 17
searched_numbered : (a : RunAnswer) → Fails (λ number. 0 < number) (searched_check a)
searched_numbered (done c) = by_pass
searched_numbered (over i c) = by_if true 16 i (omega arith)
searched_numbered (stopped c) = by_if true 17 0 (omega arith)

held_numbered : (none : Bool) (f : Film) → Fails (λ number. 0 < number) (held_check none f)
held_numbered true f = searched_numbered (weight_search f).answer
held_numbered false f = some_number (dominance_early f)

pub load_numbered : (bytes weights thicknesses : List ℕ) → Numbered (load_check bytes weights thicknesses)
unfolding file_check
load_numbered bytes weights thicknesses =
    numbered
    (by_or _ _ (by_if (not (eqb (length weights) 1024 && eqb (length thicknesses) 1156)) 10 0 (omega arith))
    (by_or _ _ (some_number (gauged_fields_early bytes)) (held_numbered (weightless bytes) (formed (numbers_in bytes)))))

pub coefficient_load_numbered : (bytes weights diagonals rights ups : List ℕ) (sources : List ℤ) → Numbered (coefficient_load_check bytes weights diagonals rights ups sources)
unfolding coefficient_file_check
coefficient_load_numbered bytes weights diagonals rights ups sources =
    let f = coefficients_in bytes in
    numbered
    (by_or _ _ (by_if (not (buffers_fit weights diagonals rights ups sources)) 10 0 (omega arith))
    (by_or _ _ (some_number (coefficient_fields_early bytes)) (by_or _ _ (some_number (coefficient_early f)) (held_numbered (weightless bytes) f))))

-- ---- where a reader refuses with 16, all before the search has passed, and the search gave it

late : (x y : Check) {i : ℕ} → Fails Early x → (x or_else y) ≡ fail 16 i → (x ≡ pass) × (y ≡ fail 16 i)
late pass y F e = (refl, e)
late (fail number place) y F e =
    let z : number ≡ 16 = cc in
    absurd (false≢true (subst Early z (F.by number place refl)))

searched : (none : Bool) (f : Film) {i : ℕ} → held_check none f ≡ fail 16 i → (none ≡ true) × (search_check f ≡ fail 16 i)
searched true f e = (refl, e)
searched false f e = absurd (false≢true ((dominance_early f).by 16 _ e))

pub record Searched (bytes : List ℕ) (fields : Check) (f : Film) (i : ℕ) : Type 0 where
  pub none : weightless bytes ≡ true
  pub fields_passed : fields ≡ pass
  pub found : search_check f ≡ fail 16 i

pub searched_file : (bytes : List ℕ) (i : ℕ) → file_check bytes ≡ fail 16 i → Searched bytes (fields_check (gauged_in bytes) bytes) (formed (numbers_in bytes)) i
unfolding file_check
searched_file bytes i e =
    let a = late _ _ (gauged_fields_early bytes) e in
    let b = searched (weightless bytes) (formed (numbers_in bytes)) a.1 in
    record { none = b.0; fields_passed = a.0; found = b.1 }

pub searched_coefficients : (bytes : List ℕ) (i : ℕ) → coefficient_file_check bytes ≡ fail 16 i
    → Searched bytes (fields_check (coefficient_fields_in bytes) bytes or_else coefficient_check (coefficients_in bytes)) (coefficients_in bytes) i
unfolding coefficient_file_check
searched_coefficients bytes i e =
    let a = late _ _ (coefficient_fields_early bytes) e in
    let b = late _ _ (coefficient_early (coefficients_in bytes)) a.1 in
    let c = searched (weightless bytes) (coefficients_in bytes) b.1 in
    record { none = c.0; fields_passed = pass_both a.0 b.0; found = c.1 }
