-- Document 01, "The film file": "A field is a tag byte, a two-byte body length, and the body." A kind of file is a list of fields.
use Rattle.std.specs.Prelude.{not, cond, List, [], ◌∷◌, ◌++◌, ℕ, ◌+◌, ltb, eqb, length}
use Rattle.model.specs.Lists.{tabulate}
use Rattle.model.specs.Refusals.{Check, pass, ◌or_else◌, fail_if}
use Rattle.model.specs.Bytes.{byte_at, word_at, word}

-- a field's tag, its one permitted length, and the test of its values in a file whose body begins at an offset
pub record Field : Type 0 where
  pub tag : ℕ
  pub size : ℕ
  pub check : List ℕ → ℕ → Check

-- where the body of a field at an offset begins, and where the next field stands
abbrev pub body : ℕ → ℕ
body at = at + 3

abbrev pub behind : ℕ → ℕ → ℕ
behind at size = body at + size

-- where a list of fields from an offset on ends
abbrev pub fields_end : List Field → ℕ → ℕ
fields_end [] at = at
fields_end (f ∷ fs) at = fields_end fs (behind at f.size)

-- one field: header, tag, length, presence of the body
unfoldable pub field_at : List ℕ → ℕ → ℕ → ℕ → Check
field_at bytes at tag size =
    fail_if (ltb (length bytes) (body at)) 1 (length bytes) or_else fail_if (not (eqb (byte_at bytes at) tag)) 2 at
    or_else fail_if (not (eqb (word_at bytes (at + 1)) size)) 3 at
    or_else fail_if (ltb (length bytes) (behind at size)) 1 (length bytes)

-- and its values
abbrev pub field_test : Field → List ℕ → ℕ → Check
field_test f bytes at = field_at bytes at f.tag f.size or_else f.check bytes (body at)

-- field by field, from an offset on
abbrev pub walk : List Field → List ℕ → ℕ → Check
walk [] bytes at = pass
walk (f ∷ fs) bytes at = field_test f bytes at or_else walk fs bytes (behind at f.size)

-- document 01: stray, bytes that follow the last field
abbrev pub unexpected_at : List ℕ → ℕ → Check
unexpected_at bytes at = fail_if (ltb at (length bytes)) 2 at

-- the bytes of a field, and of a list of fields with these bodies
abbrev pub field : ℕ → ℕ → List ℕ → List ℕ
field tag size bytes = (tag ∷ word size) ++ bytes

abbrev pub bytes_of : List Field → List (List ℕ) → List ℕ
bytes_of [] bodies = []
bytes_of (f ∷ fs) [] = []
bytes_of (f ∷ fs) (b ∷ bodies) = field f.tag f.size b ++ bytes_of fs bodies

-- Document 02, W2: fields that a film may have. In the film stands, for each, its body or nothing: "The record keeps whether the field was there".
pub data Optional (A : Type 0) : Type 0 where
  absent : Optional A
  given : A → Optional A

-- what a file has of such a field at an offset: the tag is looked at before the header, and another byte, or the file's end, leaves the field out
abbrev pub part_at : Field → List ℕ → ℕ → Optional (List ℕ)
part_at f bytes at = cond (eqb (byte_at bytes at) f.tag) (given (tabulate f.size (λ j. byte_at bytes (body at + j)))) absent

-- where the field behind it would stand
abbrev pub past : Optional (List ℕ) → Field → ℕ → ℕ
past absent f at = at
past (given bytes) f at = behind at f.size

-- what it has of a list of them, from an offset on: each at most once, in the order of the list
abbrev pub parts_in : List Field → List ℕ → ℕ → List (Optional (List ℕ))
parts_in [] bytes at = []
parts_in (f ∷ fs) bytes at = part_at f bytes at ∷ parts_in fs bytes (past (part_at f bytes at) f at)

-- those of the list that are there, and their bodies
abbrev pub present : List Field → List (Optional (List ℕ)) → List Field
present [] parts = []
present (f ∷ fs) [] = []
present (f ∷ fs) (absent ∷ parts) = present fs parts
present (f ∷ fs) (given bytes ∷ parts) = f ∷ present fs parts

abbrev pub givens : List (Optional (List ℕ)) → List (List ℕ)
givens [] = []
givens (absent ∷ parts) = givens parts
givens (given bytes ∷ parts) = bytes ∷ givens parts

-- the fields of a file of a kind that has the first list, and may have the second behind it
abbrev pub fields_in : List Field → List Field → List ℕ → List Field
fields_in required optional bytes = required ++ present optional (parts_in optional bytes (fields_end required 0))
