-- The reader by what its tests find.
use mathlib.Core.Path.{◌≡◌, sym, ap, ◌∙◌}
use mathlib.Core.Bool.{not, ◌&&◌}
use mathlib.Core.List.{List}
use Prim.Native.Nat.{ℕ}
use borrow.Author.Tests.{eqb-true, not-false}
use lib.Dec.{eqb}
use lib.ListN.{length}
use Rattle.model.specs.Refusals.{Check, pass, fail, ◌or_else◌, fail_if}
use Rattle.model.specs.File.{weightless, gauged_in, numbers_in, gauge_in, fields_check, file_check}
use Rattle.model.specs.Coefficients.{formed}
use Rattle.model.specs.Weighing.{held_check}
use Rattle.model.specs.Result.{Answer, refused}
use Rattle.model.specs.FileCalls.{LoadAnswer, load_check, Loads}
use Rattle.model.proofs.Checks.{and_parts, or_else_assoc, or_else_parts, fail_if_pass}
use Rattle.reading.specs.Reading.{LoadsBy}

-- the tests that come before 9, 16 and 17: the lent buffers, and the file's fields
abbrev pub opening : List ℕ → List ℕ → List ℕ → Check
opening bytes weights thicknesses =
    fail_if (not (eqb (length weights) 1024 && eqb (length thicknesses) 1156)) 10 0
    or_else fields_check (gauged_in bytes) bytes

load_parts : (bytes weights thicknesses : List ℕ)
    → load_check bytes weights thicknesses ≡ (opening bytes weights thicknesses or_else held_check (weightless bytes) (formed (numbers_in bytes)))
unfolding file_check
load_parts bytes weights thicknesses =
    sym (or_else_assoc (fail_if (not (eqb (length weights) 1024 && eqb (length thicknesses) 1156)) 10 0) _ _)

-- what it says that they have passed
pub record Opened (bytes weights thicknesses : List ℕ) : Type 0 where
  pub weights_len : length weights ≡ 1024
  pub thicknesses_len : length thicknesses ≡ 1156
  pub fields : fields_check (gauged_in bytes) bytes ≡ pass

pub opening_passes : (bytes weights thicknesses : List ℕ) → opening bytes weights thicknesses ≡ pass → Opened bytes weights thicknesses
opening_passes bytes weights thicknesses e =
    let a = or_else_parts (fail_if (not (eqb (length weights) 1024 && eqb (length thicknesses) 1156)) 10 0) _ e in
    let b = and_parts (eqb (length weights) 1024) (eqb (length thicknesses) 1156) (not-false _ (fail_if_pass _ 10 0 a.0)) in
    record { weights_len = eqb-true _ _ b.0; thicknesses_len = eqb-true _ _ b.1; fields = a.1 }

module _ (bytes weights thicknesses : List ℕ) where
  pub load_opened : {answer : Answer LoadAnswer} {weights' thicknesses' : List ℕ} → opening bytes weights thicknesses ≡ pass
      → LoadsBy (held_check (weightless bytes) (formed (numbers_in bytes))) (gauge_in bytes) weights thicknesses answer weights' thicknesses'
      → Loads bytes weights thicknesses answer weights' thicknesses'
  load_opened e L =
      let k = load_parts bytes weights thicknesses ∙ ap (λ x. x or_else held_check (weightless bytes) (formed (numbers_in bytes))) e in
      record { answer_is = rw k L.answer_is; weights_are = rw k L.weights_are; thicknesses_are = rw k L.thicknesses_are }

  pub load_refused : {number place : ℕ} → opening bytes weights thicknesses ≡ fail number place
      → Loads bytes weights thicknesses (refused number place) weights thicknesses
  load_refused e =
      let k = load_parts bytes weights thicknesses ∙ ap (λ x. x or_else held_check (weightless bytes) (formed (numbers_in bytes))) e in
      record { answer_is = rw k; weights_are = rw k; thicknesses_are = rw k }
