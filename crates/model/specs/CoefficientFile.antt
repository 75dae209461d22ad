-- Document 02, W1: the file of a film that comes as coefficients: its fields, what its reader refuses and in what order, and the file of a film.
use Rattle.std.specs.Prelude.{◌≡◌, Bool, true, not, List, [], ◌∷◌, ◌++◌, ℕ, ◌+◌, ◌*◌, ◌<◌, ℤ, get_or}
use Rattle.model.specs.Lists.{tabulate}
use Rattle.model.specs.Refusals.{Check, pass, ◌or_else◌, fail_if}
use Rattle.model.specs.Film.{Film, size_of, weighted}
use Rattle.model.specs.Checks.{shape_check, ceiling_check, film_fits, coefficient_check, dominance_check}
use Rattle.model.specs.Weighing.{weights_for, held_check}
use Rattle.model.specs.Result.{Answer, answer_by}
use Rattle.model.specs.Bytes.{byte_at, word_at, long_at, quad_at, long, quad, signed_quad, unsigned_quad, listed}
use Rattle.model.specs.Fields.{Field, body, fields_end, bytes_of, fields_in}
use Rattle.model.specs.File.{opening, rows_offset, columns_offset, ceiling_offset, weights_offset, cells_in, weightless, carried_in, fields_check, weight_bytes, weights_check}

-- n numbers of so many bytes each. None is tested where it stands: 14 comes after the last field.
abbrev pub numbers_field : ℕ → ℕ → ℕ → Field
numbers_field tag width n = record { tag = tag; size = width * n; check = λ bytes at. pass }

abbrev pub diagonals_field : ℕ → Field
diagonals_field = numbers_field 6 4

abbrev pub rights_field : ℕ → Field
rights_field = numbers_field 7 4

abbrev pub ups_field : ℕ → Field
ups_field = numbers_field 8 4

abbrev pub sources_field : ℕ → Field
sources_field = numbers_field 9 8

-- the fields of a film with n cells, in a file with w weights: the three that all films share, and its own four
abbrev pub coefficient_fields : ℕ → ℕ → List Field
coefficient_fields w n = opening w ++ (diagonals_field n ∷ rights_field n ∷ ups_field n ∷ sources_field n ∷ [])

-- no field may follow them
abbrev pub coefficient_optional : List Field
coefficient_optional = []

-- where its numbers stand: those of cell i at 4 × i, and its source at 8 × i, behind the first
abbrev pub diagonals_offset : ℕ → ℕ
diagonals_offset w = body (fields_end (opening w) 0)

abbrev pub rights_offset : ℕ → ℕ → ℕ
rights_offset w n = body (fields_end (opening w ++ (diagonals_field n ∷ [])) 0)

abbrev pub ups_offset : ℕ → ℕ → ℕ
ups_offset w n = body (fields_end (opening w ++ (diagonals_field n ∷ rights_field n ∷ [])) 0)

abbrev pub sources_offset : ℕ → ℕ → ℕ
sources_offset w n = body (fields_end (opening w ++ (diagonals_field n ∷ rights_field n ∷ ups_field n ∷ [])) 0)

-- where its file ends, which has a weight for each cell
abbrev pub coefficient_end : ℕ → ℕ
coefficient_end n = fields_end (coefficient_fields n n) 0

-- n numbers of 4 bytes from an offset on, and of 8 bytes, signed
abbrev pub longs_at : List ℕ → ℕ → ℕ → List ℕ
longs_at bytes at n = tabulate n (λ i. long_at bytes (at + 4 * i))

abbrev pub signed_quads_at : List ℕ → ℕ → ℕ → List ℤ
signed_quads_at bytes at n = tabulate n (λ i. signed_quad (quad_at bytes (at + 8 * i)))

-- the numbers that stand in a file
abbrev pub coefficients_in : List ℕ → Film
coefficients_in bytes =
    record {
      rows = byte_at bytes rows_offset;
      columns = byte_at bytes columns_offset;
      ceiling = long_at bytes ceiling_offset;
      weights = tabulate (carried_in bytes) (λ i. word_at bytes (weights_offset + 2 * i));
      diagonals = longs_at bytes (diagonals_offset (carried_in bytes)) (cells_in bytes);
      rights = longs_at bytes (rights_offset (carried_in bytes) (cells_in bytes)) (cells_in bytes);
      ups = longs_at bytes (ups_offset (carried_in bytes) (cells_in bytes)) (cells_in bytes);
      sources = signed_quads_at bytes (sources_offset (carried_in bytes) (cells_in bytes)) (cells_in bytes);
    }

-- the film: those, and the weights that are found where the file has none
abbrev pub film_in : List ℕ → Film
film_in bytes = weighted (coefficients_in bytes) (weights_for (weightless bytes) (coefficients_in bytes))

-- the fields of the film whose shape stands in a file
abbrev pub coefficient_fields_in : List ℕ → List Field
coefficient_fields_in bytes = fields_in (coefficient_fields (carried_in bytes) (cells_in bytes)) coefficient_optional bytes

-- these, and nothing behind them; then 14; then 9, or 16 and 17
unfoldable pub coefficient_file_check : List ℕ → Check
coefficient_file_check bytes =
    fields_check (coefficient_fields_in bytes) bytes or_else coefficient_check (coefficients_in bytes) or_else held_check (weightless bytes) (coefficients_in bytes)

-- a coefficient film file is accepted, and this is its film; or it is refused with a number and a place
abbrev pub read_coefficients : List ℕ → Answer Film
read_coefficients bytes = answer_by (coefficient_file_check bytes) (film_in bytes)

-- the file of a film: its fields with these bodies
abbrev pub source_bytes : ℤ → List ℕ
source_bytes z = quad (unsigned_quad z)

abbrev pub coefficient_bodies : Film → List (List ℕ)
coefficient_bodies f =
    (f.rows ∷ f.columns ∷ []) ∷ long f.ceiling ∷ weight_bytes f.weights ∷ listed long f.diagonals ∷ listed long f.rights
    ∷ listed long f.ups
    ∷ listed source_bytes f.sources
    ∷ []

unfoldable pub coefficient_file_of : Film → List ℕ
coefficient_file_of f = bytes_of (coefficient_fields (size_of f) (size_of f)) (coefficient_bodies f)

-- the writer's tests: 4, 10, 5 and 6 at the offsets that the numbers get in the file, then 14 and 9 at cells. `fits` says whether all
-- slices have their lengths
unfoldable pub writer_check : Film → Bool → Check
writer_check f fits =
    shape_check f.rows rows_offset f.columns columns_offset or_else fail_if (not fits) 10 0 or_else ceiling_check f.ceiling ceiling_offset
    or_else weights_check f.weights (size_of f)
    or_else coefficient_check f
    or_else dominance_check f

-- What types and lengths say of a film as the writer takes it: it has a number of each list for each cell, and a weight has 16 bits.
pub record CoefficientValues (f : Film) : Type 0 where
  pub fits : film_fits f ≡ true
  pub weight_word : (i : ℕ) → get_or f.weights i 0 < 65536
