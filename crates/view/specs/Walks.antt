-- The two kinds of film file, what a walk over a list of fields gives, and how a film's walk goes on.
use Rattle.std.specs.Prelude.{◌≡◌, cond, ◌&&◌, List, [], ◌∷◌, ℕ, ◌+◌, ltb, eqb, Option, Some, None, Result, Ok}
use Rattle.model.specs.Refusals.{check_of}
use Rattle.model.specs.Bytes.{byte_at}
use Rattle.model.specs.Fields.{Field, behind, fields_end, walk, fields_in}
use Rattle.model.specs.File.{gauged, gauged_optional, carried}
use Rattle.model.specs.CoefficientFile.{coefficient_fields, coefficient_optional}
use Rattle.model.specs.declared.Refusal.{Refusal}
use Rattle.fields.specs.Tags.{field_for, test_of}
use Rattle.view.specs.declared.Kind.{Kind}
use Rattle.view.specs.declared.Kind.TheVariants.{Thicknesses, Coefficients}
use Rattle.view.specs.declared.Step.{Step}

-- the fields that a file of that kind with w weights has, those that may follow them, and the last tag that all have
abbrev pub required_of : Kind → ℕ → ℕ → ℕ → List Field
required_of Thicknesses w n t = gauged w t
required_of Coefficients w n t = coefficient_fields w n

abbrev pub optional_of : Kind → List Field
optional_of Thicknesses = gauged_optional
optional_of Coefficients = coefficient_optional

abbrev pub last_of : Kind → ℕ
last_of Thicknesses = 5
last_of Coefficients = 9

-- the fields of a file of that kind, which has n weights or none
abbrev pub kind_of : Kind → ℕ → ℕ → List ℕ → List Field
kind_of kind n t bytes = fields_in (required_of kind (carried bytes n) n t) (optional_of kind) bytes

-- the tag of the next optional field behind a tag, where that byte stands: the byte, if it is the tag of a later one
abbrev pub next_optional : List Field → ℕ → ℕ → Option ℕ
next_optional [] tag byte = None
next_optional (f ∷ fs) tag byte = cond (eqb byte f.tag && ltb tag f.tag) (Some byte) (next_optional fs tag byte)

-- the tag of the next field: up to the last tag whatever stands there (coefficients have no 04 and 05), and then as the byte says
abbrev pub next_required : Kind → ℕ → ℕ
next_required Thicknesses tag = tag + 1
next_required Coefficients tag = cond (eqb tag 3) 6 (tag + 1)

abbrev pub next_tag : Kind → ℕ → ℕ → Option ℕ
next_tag kind tag byte = cond (ltb tag (last_of kind)) (Some (next_required kind tag)) (next_optional (optional_of kind) tag byte)

-- a step of the walk: what the field's test finds and, where it passes, the offset behind the field and the tag of the next one
pub record Takes (kind : Kind) (n t tag : ℕ) (bytes : List ℕ) (at : ℕ) (r : Result Step Refusal) : Type 0 where
  pub finds : check_of r ≡ test_of (field_for bytes tag n t) tag bytes at
  pub goes_on : (s : Step) → r ≡ Ok s → s.next ≡ behind at (field_for bytes tag n t).size
  pub then : (s : Step) → r ≡ Ok s → s.tag ≡ next_tag kind tag (byte_at bytes s.next)

-- what the fields' tests find, one after another, and, where all pass, the offset behind the last
pub record Walks (fs : List Field) (bytes : List ℕ) (r : Result ℕ Refusal) : Type 0 where
  pub finds : check_of r ≡ walk fs bytes 0
  pub comes : (end : ℕ) → r ≡ Ok end → end ≡ fields_end fs 0
