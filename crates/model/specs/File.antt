-- Document 01, "The film file", and document 02, W2 and W5: the fields of a film's file, what the reader refuses and in what order, and the file of a film.
use Rattle.std.specs.Prelude.{◌≡◌, Bool, not, cond, List, [], ◌∷◌, ◌++◌, ℕ, ◌+◌, ◌*◌, ◌<◌, ltb, eqb, ℤ, nat_abs, length, get_or, Option, Some, None}
use Rattle.model.specs.Limits.{thickness_limit, wedge_limit, step_limit}
use Rattle.model.specs.Lists.{tabulate}
use Rattle.model.specs.Refusals.{Check, pass, ◌or_else◌, fail_if, fail_first}
use Rattle.model.specs.Gauge.{Gauge, weighted_gauge}
use Rattle.model.specs.Coefficients.{formed}
use Rattle.model.specs.Checks.{outside, shape_check, ceiling_check, not_dominant}
use Rattle.model.specs.Weighing.{weights_for, held_check}
use Rattle.model.specs.Result.{Answer, answer_by}
use Rattle.model.specs.Bytes.{byte_at, word_at, long_at, word, long, signed_of, unsigned_of, listed}
use Rattle.model.specs.Fields.{Field, body, fields_end, walk, unexpected_at, field, bytes_of, Optional, absent, given, parts_in, present, givens, fields_in}
use Rattle.model.specs.declared.Factors.{Factors}

-- the number of cells, and of thicknesses with the boundary ring
abbrev pub cells : ℕ → ℕ → ℕ
cells rows columns = rows * columns

abbrev pub ringed : ℕ → ℕ → ℕ
ringed rows columns = (rows + 2) * (columns + 2)

-- 6, of n weights of two bytes from an offset on; 7, of n thicknesses of a byte; and 8
abbrev pub weights_from : (ℕ → ℕ) → ℕ → ℕ → Check
weights_from weight n at = fail_first (λ i. eqb (weight i) 0) n 6 (λ i. at + 2 * i)

abbrev pub thicknesses_from : (ℕ → ℕ) → ℕ → ℕ → Check
thicknesses_from thickness n at = fail_first (λ j. outside (thickness j) 1 thickness_limit) n 7 (λ j. at + j)

abbrev pub wedge_check : ℤ → ℕ → Check
wedge_check wedge place = fail_if (ltb wedge_limit (nat_abs wedge)) 8 place

-- 15, of the two steps from an offset on; and of a film's, which are not looked at where it has no field for them
abbrev pub factors_from : Factors → ℕ → Check
factors_from f at = fail_if (outside f.along 1 step_limit) 15 at or_else fail_if (outside f.across 1 step_limit) 15 (at + 1)

abbrev pub steps_check : Option Factors → ℕ → Check
steps_check None at = pass
steps_check (Some f) at = factors_from f at

-- The fields, each with the test of the values that stand in its body.
abbrev pub shape_field : Field
shape_field =
    record { tag = 1; size = 2; check = λ bytes at. shape_check (byte_at bytes at) at (byte_at bytes (at + 1)) (at + 1) }

abbrev pub ceiling_field : Field
ceiling_field = record { tag = 2; size = 4; check = λ bytes at. ceiling_check (long_at bytes at) at }

-- n weights
abbrev pub weights_field : ℕ → Field
weights_field n =
    record { tag = 3; size = 2 * n; check = λ bytes at. weights_from (λ i. word_at bytes (at + 2 * i)) n at }

-- t thicknesses
abbrev pub thicknesses_field : ℕ → Field
thicknesses_field t =
    record { tag = 4; size = t; check = λ bytes at. thicknesses_from (λ j. byte_at bytes (at + j)) t at }

abbrev pub wedge_field : Field
wedge_field = record { tag = 5; size = 4; check = λ bytes at. wedge_check (signed_of (long_at bytes at)) at }

abbrev pub factors_at : List ℕ → ℕ → Factors
factors_at bytes at = record { along = byte_at bytes at; across = byte_at bytes (at + 1) }

abbrev pub steps_field : Field
steps_field = record { tag = 10; size = 2; check = λ bytes at. factors_from (factors_at bytes at) at }

-- The first three, which other kinds of file share, in a file with n weights; and the film's five.
abbrev pub opening : ℕ → List Field
opening n = shape_field ∷ ceiling_field ∷ weights_field n ∷ []

abbrev pub gauged : ℕ → ℕ → List Field
gauged n t = opening n ++ (thicknesses_field t ∷ wedge_field ∷ [])

-- those that may follow them, in rising order of tags
abbrev pub gauged_optional : List Field
gauged_optional = steps_field ∷ []

-- Where the numbers stand in a file with n weights and t thicknesses: weight i at 2 × i behind the first, thickness j at j.
abbrev pub rows_offset : ℕ
rows_offset = body 0

abbrev pub columns_offset : ℕ
columns_offset = rows_offset + 1

abbrev pub ceiling_offset : ℕ
ceiling_offset = body (fields_end (shape_field ∷ []) 0)

abbrev pub weights_offset : ℕ
weights_offset = body (fields_end (shape_field ∷ ceiling_field ∷ []) 0)

abbrev pub thicknesses_offset : ℕ → ℕ
thicknesses_offset n = body (fields_end (opening n) 0)

abbrev pub wedge_offset : ℕ → ℕ → ℕ
wedge_offset n t = body (fields_end (opening n ++ (thicknesses_field t ∷ [])) 0)

abbrev pub end_offset : ℕ → ℕ → ℕ
end_offset n t = fields_end (gauged n t) 0

abbrev pub steps_offset : ℕ → ℕ → ℕ
steps_offset n t = body (end_offset n t)

-- the numbers of cells and of thicknesses, by the shape that stands in a file
abbrev pub cells_in : List ℕ → ℕ
cells_in bytes = cells (byte_at bytes rows_offset) (byte_at bytes columns_offset)

abbrev pub ring_in : List ℕ → ℕ
ring_in bytes = ringed (byte_at bytes rows_offset) (byte_at bytes columns_offset)

-- W5: "A weight field of length 0", which leaves the weights to the program; and as many of n weights as the file then has
abbrev pub weightless : List ℕ → Bool
weightless bytes = eqb (word_at bytes (fields_end (shape_field ∷ ceiling_field ∷ []) 0 + 1)) 0

abbrev pub carried : List ℕ → ℕ → ℕ
carried bytes n = cond (weightless bytes) 0 n

abbrev pub carried_in : List ℕ → ℕ
carried_in bytes = carried bytes (cells_in bytes)

-- a film's steps as the body of an optional field, and back
abbrev pub steps_part : Option Factors → Optional (List ℕ)
steps_part None = absent
steps_part (Some f) = given (f.along ∷ f.across ∷ [])

abbrev pub steps_of : Optional (List ℕ) → Option Factors
steps_of absent = None
steps_of (given bytes) = Some (factors_at bytes 0)

-- what a file has of the optional fields
abbrev pub gauged_parts : List ℕ → List (Optional (List ℕ))
gauged_parts bytes = parts_in gauged_optional bytes (end_offset (carried_in bytes) (ring_in bytes))

-- the fields of the film whose shape stands in a file
abbrev pub gauged_in : List ℕ → List Field
gauged_in bytes = fields_in (gauged (carried_in bytes) (ring_in bytes)) gauged_optional bytes

-- the numbers that stand in a file
abbrev pub numbers_in : List ℕ → Gauge
numbers_in bytes =
    record {
      rows = byte_at bytes rows_offset;
      columns = byte_at bytes columns_offset;
      ceiling = long_at bytes ceiling_offset;
      weights = tabulate (carried_in bytes) (λ i. word_at bytes (weights_offset + 2 * i));
      thicknesses = tabulate (ring_in bytes) (λ j. byte_at bytes (thicknesses_offset (carried_in bytes) + j));
      wedge = signed_of (long_at bytes (wedge_offset (carried_in bytes) (ring_in bytes)));
      steps = steps_of (get_or (gauged_parts bytes) 0 absent);
    }

-- the film's numbers: those, and the weights that are found where the file has none
abbrev pub gauge_in : List ℕ → Gauge
gauge_in bytes = weighted_gauge (numbers_in bytes) (weights_for (weightless bytes) (formed (numbers_in bytes)))

-- 9, of the coefficients that the film's numbers form
unfoldable pub gauge_dominance : Gauge → Check
gauge_dominance g = fail_first (not_dominant (formed g)) (g.rows * g.columns) 9 (λ i. i)

-- field by field, each with its values; then what follows them
abbrev pub fields_check : List Field → List ℕ → Check
fields_check fields bytes = walk fields bytes 0 or_else unexpected_at bytes (fields_end fields 0)

-- the fields; then 9, or 16 and 17
unfoldable pub file_check : List ℕ → Check
file_check bytes = fields_check (gauged_in bytes) bytes or_else held_check (weightless bytes) (formed (numbers_in bytes))

-- a film file is accepted, and these are its film's numbers; or it is refused with a number and a place
abbrev pub read_film : List ℕ → Answer Gauge
read_film bytes = answer_by (file_check bytes) (gauge_in bytes)

-- the file of a film's numbers: its fields with these bodies
abbrev pub weight_bytes : List ℕ → List ℕ
weight_bytes = listed word

abbrev pub bodies : Gauge → List (List ℕ)
bodies g =
    (g.rows ∷ g.columns ∷ []) ∷ long g.ceiling ∷ weight_bytes g.weights ∷ g.thicknesses ∷ long (unsigned_of g.wedge) ∷ []

-- and of the optional ones
abbrev pub parts : Gauge → List (Optional (List ℕ))
parts g = steps_part g.steps ∷ []

abbrev pub gauged_fields : Gauge → List Field
gauged_fields g = gauged (cells g.rows g.columns) (ringed g.rows g.columns) ++ present gauged_optional (parts g)

abbrev pub gauged_end : Gauge → ℕ
gauged_end g = fields_end (gauged_fields g) 0

unfoldable pub file_of : Gauge → List ℕ
file_of g = bytes_of (gauged_fields g) (bodies g ++ givens (parts g))

-- 6 and 7 of a film's own numbers, at the offsets that they get in its file
abbrev pub weights_check : List ℕ → ℕ → Check
weights_check weights n = weights_from (λ i. get_or weights i 0) n weights_offset

abbrev pub thicknesses_check : List ℕ → ℕ → ℕ → Check
thicknesses_check thicknesses n t = thicknesses_from (λ j. get_or thicknesses j 0) t (thicknesses_offset n)

-- the tests of calls that take a film's numbers: 4, 10, 5, 6, 7, 8, 15, 9. `fits` says whether all slices have their lengths
unfoldable pub gauge_check : Gauge → Bool → Check
gauge_check g fits =
    shape_check g.rows rows_offset g.columns columns_offset or_else fail_if (not fits) 10 0 or_else ceiling_check g.ceiling ceiling_offset
    or_else weights_check g.weights (cells g.rows g.columns)
    or_else thicknesses_check g.thicknesses (cells g.rows g.columns) (ringed g.rows g.columns)
    or_else wedge_check g.wedge (wedge_offset (cells g.rows g.columns) (ringed g.rows g.columns))
    or_else steps_check g.steps (steps_offset (cells g.rows g.columns) (ringed g.rows g.columns))
    or_else gauge_dominance g

-- What types and lengths say: that a file consists of bytes; and of a film's numbers as the writer takes them, that the ceiling has
-- 32 bits, a weight 16 and a thickness 8, with a weight for each cell and a thickness for each place of the grid and its ring.
pub record Bytes (l : List ℕ) : Type 0 where
  pub byte : (i : ℕ) → get_or l i 0 < 256

pub record Values (g : Gauge) : Type 0 where
  pub weights_len : length g.weights ≡ cells g.rows g.columns
  pub thicknesses_len : length g.thicknesses ≡ ringed g.rows g.columns
  pub ceiling_long : g.ceiling < 4294967296
  pub weight_word : (i : ℕ) → get_or g.weights i 0 < 65536
  pub thickness_byte : (j : ℕ) → get_or g.thicknesses j 0 < 256

-- W5: "Such a file writes back with its found weights in place": an empty field 03, and the field with these weights between the same bytes
pub record InPlace (weights bytes out : List ℕ) : Type 0 where
  pub front : List ℕ
  pub back : List ℕ
  pub front_len : length front ≡ fields_end (shape_field ∷ ceiling_field ∷ []) 0
  pub was : bytes ≡ front ++ field 3 0 [] ++ back
  pub is : out ≡ front ++ field 3 (2 * length weights) (weight_bytes weights) ++ back
