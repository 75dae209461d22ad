-- The field that a tag names, in a file of either kind of film, with n cells and t thicknesses, and as many weights as it has; and how far a walk over such fields may come.
use Rattle.std.specs.Prelude.{◌≡◌, cond, List, ℕ, ◌≤◌, eqb, length, Result, Ok}
use Rattle.model.specs.Refusals.{Check, pass, ◌or_else◌, check_of}
use Rattle.model.specs.Fields.{Field, body, behind, field_at}
use Rattle.model.specs.File.{shape_field, ceiling_field, weights_field, thicknesses_field, wedge_field, steps_field, carried}
use Rattle.model.specs.CoefficientFile.{diagonals_field, rights_field, ups_field, sources_field}
use Rattle.model.specs.declared.Refusal.{Refusal}

-- a field of so many bytes whose values are not tested where they stand; and what a tag that no field has stands for
abbrev pub plain_field : ℕ → Field
plain_field size = record { tag = 0; size = size; check = λ bytes at. pass }

abbrev pub unknown : Field
unknown = plain_field 0

abbrev pub field_for : List ℕ → ℕ → ℕ → ℕ → Field
field_for bytes tag n t =
    cond (eqb tag 1) shape_field
    (cond (eqb tag 2) ceiling_field
    (cond (eqb tag 3) (weights_field (carried bytes n))
    (cond (eqb tag 4) (thicknesses_field t)
    (cond (eqb tag 5) wedge_field
    (cond (eqb tag 6) (diagonals_field n)
    (cond (eqb tag 7) (rights_field n) (cond (eqb tag 8) (ups_field n)
    (cond (eqb tag 9) (sources_field n) (cond (eqb tag 10) steps_field unknown)))))))))

-- a field at an offset where that tag should stand: header and values
abbrev pub test_of : Field → ℕ → List ℕ → ℕ → Check
test_of f tag bytes at = field_at bytes at tag f.size or_else f.check bytes (body at)

-- what its test gives: what it finds and, where it passes, the offset behind the field
pub record Tries (f : Field) (tag : ℕ) (bytes : List ℕ) (at : ℕ) (r : Result ℕ Refusal) : Type 0 where
  pub finds : check_of r ≡ test_of f tag bytes at
  pub goes_on : (next : ℕ) → r ≡ Ok next → next ≡ behind at f.size

-- what the test of a field's values answers, where its whole body is there, is what the field says of them
abbrev pub Finds : Field → List ℕ → ℕ → (Result (Unit {0}) Refusal → Type 0) → Type 0
Finds f bytes at answers = behind at f.size ≤ length bytes → (v : Result (Unit {0}) Refusal) → answers v → check_of v ≡ f.check bytes (body at)

-- Sides of up to 255 stand in a file before they are tested, and so the offsets behind its fields are small numbers all the same.
pub record Room (at n t : ℕ) : Type 0 where
  pub at_low : at ≤ 5000000
  pub cells_few : n ≤ 65025
  pub ring_few : t ≤ 66049
