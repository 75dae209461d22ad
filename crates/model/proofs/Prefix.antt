-- What lies beyond the largest film cannot change what is read from a file, nor the report of it.
--
-- Two files that agree in as many bytes as the largest film has, and one more, are read alike: where the shape is refused, only the first
-- bytes were looked at; where it is not, the fields of either kind end within those bytes, and the numbers are the same.
use mathlib.Core.Path.{◌≡◌, refl, sym, ap, ap₂, ◌∙◌}
use mathlib.Core.Bool.{cond}
use mathlib.Core.List.{List, ◌++◌}
use Prim.Native.Nat.{ℕ, ◌+◌, ◌*◌, ◌≤◌, ◌<◌}
use native.Mathlib.Nat.{mul-le-mul, mul-le-mul_left, mul-suc}
use native.Mathlib.Decide.{dec_lt}
use native.Mathlib.Omega.{arith}
use borrow.Author.Tests.{lt-ltb}
use lib.Dec.{eqb}
use lib.IntN.{pos}
use lib.ListN.{length, get_or, take}
use lib.Seq.{length-take-le, take_all, get_or-take}
use Rattle.model.specs.Limits.{thickness_limit}
use Rattle.model.specs.Lists.{tabulate}
use Rattle.model.specs.Refusals.{Check, pass, fail, ◌or_else◌}
use Rattle.model.specs.Gauge.{weighted_gauge}
use Rattle.model.specs.Film.{weighted}
use Rattle.model.specs.Coefficients.{formed}
use Rattle.model.specs.Checks.{outside, shape_check, ceiling_check, coefficient_check}
use Rattle.model.specs.Weighing.{weights_for, held_check}
use Rattle.model.specs.Bytes.{byte_at, word_at, signed_of}
use Rattle.model.specs.Fields.{Field, fields_end, field_at, field_test, unexpected_at, absent, present}
use Rattle.model.specs.File.{cells, ringed, wedge_check, factors_from, shape_field, ceiling_field, weights_field, thicknesses_field, wedge_field, steps_field, opening, gauged, gauged_optional, rows_offset, columns_offset, ceiling_offset, weights_offset, thicknesses_offset, wedge_offset, end_offset, cells_in, ring_in, weightless, carried_in, steps_of, gauged_parts, numbers_in, gauge_in, fields_check, file_check, read_film}
use Rattle.model.specs.CoefficientFile.{numbers_field, coefficient_fields, diagonals_offset, rights_offset, ups_offset, sources_offset, coefficients_in, film_in, coefficient_file_check, read_coefficients}
use Rattle.model.specs.EitherFile.{tagged06, formed_by, read_either}
use Rattle.model.specs.Result.{answer_by}
use Rattle.model.specs.Report.{report_by, report_of, enough}
use Rattle.model.proofs.Lists.{tabulate_same}
use Rattle.model.proofs.Checks.{or_else_parts, fail_first_same}
use Rattle.model.proofs.Codes.{Code, word_code, long_code, signed_long_code, signed_quad_code}
use Rattle.model.proofs.Fields.{Agree, Local, AllLocal, field_same, walk_same}
use Rattle.model.proofs.Optional.{parts_same, present_end, present_local, append_local}
use Rattle.model.proofs.Opening.{Shaped, shape_passes, carried_low}
use Rattle.model.proofs.EitherFile.{shape_refused}

-- ---- a film's fields look at their bodies alone

shape_local : Local shape_field
shape_local =
    record { alike = λ l m at same. ap₂ (λ r c. shape_check r at c (at + 1)) (same at (omega arith) (omega arith)) (same (at + 1) (omega arith) (omega arith)) }

ceiling_local : Local ceiling_field
ceiling_local =
    record { alike = λ l m at same. ap (λ c. ceiling_check c at) (long_code.alike l m at same) }

weights_local : (n : ℕ) → Local (weights_field n)
weights_local n =
    record {
      alike = λ l m at same.
          fail_first_same _ _ n 6 (λ i. at + 2 * i)
          (λ i h. ap (λ w. eqb w 0) (word_code.alike l m (at + 2 * i) (λ k g b. same k (omega arith) (omega arith))));
    }

thicknesses_local : (t : ℕ) → Local (thicknesses_field t)
thicknesses_local t =
    record {
      alike = λ l m at same.
          fail_first_same _ _ t 7 (λ j. at + j)
          (λ j h. ap (λ x. outside x 1 thickness_limit) (same (at + j) (omega arith) (omega arith)));
    }

wedge_local : Local wedge_field
wedge_local =
    record { alike = λ l m at same. ap (λ w. wedge_check (signed_of w) at) (long_code.alike l m at same) }

numbers_local : (tag width n : ℕ) → Local (numbers_field tag width n)
numbers_local tag width n = record { alike = λ l m at same. refl }

steps_local : Local steps_field
steps_local =
    record {
      alike = λ l m at same.
          ap₂ (λ along across. factors_from (record { along = along; across = across }) at) (same at (omega arith) (omega arith)) (same (at + 1) (omega arith) (omega arith));
    }

gauged_local : (n t : ℕ) → AllLocal (gauged n t)
gauged_local n t = (shape_local, (ceiling_local, (weights_local n, (thicknesses_local t, (wedge_local, tt)))))

coefficients_local : (w n : ℕ) → AllLocal (coefficient_fields w n)
coefficients_local w n = (
  shape_local,
  (ceiling_local, (weights_local w, (numbers_local 6 4 n, (numbers_local 7 4 n, (numbers_local 8 4 n, (numbers_local 9 8 n, tt)))))),
)

-- films within the limits of their shape end before that
few_cells : {rows columns : ℕ} → Shaped rows columns → cells rows columns ≤ 1024
few_cells s = let count = mul-le-mul s.rows_low s.columns_low in omega arith

gauged_near : {rows columns : ℕ} (w : ℕ) → w ≤ cells rows columns → Shaped rows columns → fields_end (gauged w (ringed rows columns) ++ gauged_optional) 0 < enough
gauged_near w h s = let few = few_cells s in omega arith

-- ---- two files that agree so far

-- a file cut there agrees with the whole
cut_agrees : (l : List ℕ) → enough ≤ length l → Agree enough (take enough l) l
cut_agrees l h =
    record {
      same = λ at b. get_or-take enough l at 0 b;
      left = omega (arith, length-take-le enough l h);
      right = h;
    }

module _ (l m : List ℕ) (A : Agree enough l m) where
  -- the shape is the same, ..
  rows_same : byte_at l rows_offset ≡ byte_at m rows_offset
  rows_same = A.same rows_offset (omega arith)

  columns_same : byte_at l columns_offset ≡ byte_at m columns_offset
  columns_same = A.same columns_offset (omega arith)

  -- .. so is whether the weights are there, ..
  none_same : weightless l ≡ weightless m
  none_same = ap₂ (λ (a b : ℕ). eqb (a * 256 + b) 0) (A.same 13 (omega arith)) (A.same 14 (omega arith))

  carried_same : carried_in l ≡ carried_in m
  carried_same = λ k. cond (none_same k) 0 (cells (rows_same k) (columns_same k))

  -- .. so is a number that ends within those bytes, and a list of numbers that does, ..
  module _ {T : Type 0} {w : ℕ} {write : T → List ℕ} {read : List ℕ → ℕ → T} {Fits : T → Type 0} (c : Code w write read Fits) where
    number_same : (at : ℕ) → at + w ≤ enough → read l at ≡ read m at
    number_same at h = c.alike l m at (λ k g b. A.same k (omega arith))

    list_same : (d : T) (from n : ℕ) → from + w * n ≤ enough → tabulate n (λ i. read l (from + w * i)) ≡ tabulate n (λ i. read m (from + w * i))
    list_same d from n h =
        tabulate_same d n _ _ (λ i b. number_same (from + w * i) (omega (arith, mul-le-mul_left w b, mul-suc w i)))

  -- .. and so are all tests of fields that do
  fields_same : (fs : List Field) → AllLocal fs → fields_end fs 0 < enough → fields_check fs l ≡ fields_check fs m
  fields_same fs local h =
      let behind : unexpected_at l (fields_end fs 0) ≡ unexpected_at m (fields_end fs 0) =
      rw (lt-ltb (fields_end fs 0) (length l) (omega (arith, A.left)), lt-ltb (fields_end fs 0) (length m) (omega (arith, A.right))) in
      ap₂ ◌or_else◌ (walk_same A fs 0 local (omega arith)) behind

  -- ---- a shape within its limits: every number of the film stands within those bytes

  module _ (s : Shaped (byte_at m rows_offset) (byte_at m columns_offset)) where
    abbrev n : ℕ
    n = cells_in m

    abbrev t : ℕ
    t = ring_in m

    low : n ≤ 1024
    low = few_cells s

    -- as many weights as the file has
    abbrev w : ℕ
    w = carried_in m

    few : w ≤ n
    few = carried_low m n

    weights_same : tabulate (carried_in l) (λ i. word_at l (weights_offset + 2 * i)) ≡ tabulate w (λ i. word_at m (weights_offset + 2 * i))
    weights_same = rw (carried_same) (list_same word_code 0 weights_offset w (omega (arith, low, few)))

    optional_same : gauged_parts l ≡ gauged_parts m
    optional_same = rw (carried_same, rows_same, columns_same) (parts_same A gauged_optional (end_offset w t) (gauged_near w few s))

    numbers_same : numbers_in l ≡ numbers_in m
    numbers_same =
        let end = gauged_near w few s in
        let thicknesses : (numbers_in l).thicknesses ≡ (numbers_in m).thicknesses =
        rw (carried_same, rows_same, columns_same) (tabulate_same 0 t _ _ (λ j b. A.same (thicknesses_offset w + j) (omega (arith, end)))) in
        let wedge : (numbers_in l).wedge ≡ (numbers_in m).wedge =
        rw (carried_same, rows_same, columns_same) (number_same signed_long_code (wedge_offset w t) (omega (arith, end))) in
        let steps : (numbers_in l).steps ≡ (numbers_in m).steps = ap (λ ps. steps_of (get_or ps 0 absent)) optional_same in
        λ k. record {
          rows = rows_same k;
          columns = columns_same k;
          ceiling = number_same long_code ceiling_offset (omega arith) k;
          weights = weights_same k;
          thicknesses = thicknesses k;
          wedge = wedge k;
          steps = steps k;
        }

    coefficients_stand : coefficients_in l ≡ coefficients_in m
    coefficients_stand =
        let diagonals : (coefficients_in l).diagonals ≡ (coefficients_in m).diagonals = rw (carried_same, rows_same, columns_same) (list_same long_code 0 (diagonals_offset w) n (omega (arith, low, few))) in
        let rights : (coefficients_in l).rights ≡ (coefficients_in m).rights = rw (carried_same, rows_same, columns_same) (list_same long_code 0 (rights_offset w n) n (omega (arith, low, few))) in
        let ups : (coefficients_in l).ups ≡ (coefficients_in m).ups = rw (carried_same, rows_same, columns_same) (list_same long_code 0 (ups_offset w n) n (omega (arith, low, few))) in
        let sources : (coefficients_in l).sources ≡ (coefficients_in m).sources = rw (carried_same, rows_same, columns_same) (list_same signed_quad_code (pos 0) (sources_offset w n) n (omega (arith, low, few))) in
        λ k. record {
          rows = rows_same k;
          columns = columns_same k;
          ceiling = number_same long_code ceiling_offset (omega arith) k;
          weights = weights_same k;
          diagonals = diagonals k;
          rights = rights k;
          ups = ups k;
          sources = sources k;
        }

    -- so both readers read the two files alike, and the same one is chosen
    local : AllLocal (gauged w t ++ present gauged_optional (gauged_parts m))
    local =
        append_local (gauged w t) (present gauged_optional (gauged_parts m)) (gauged_local w t)
        (present_local gauged_optional (gauged_parts m) (steps_local, tt))

    near : fields_end (gauged w t ++ present gauged_optional (gauged_parts m)) 0 < enough
    near = omega (arith, present_end gauged_optional (gauged_parts m) (end_offset w t), gauged_near w few s)

    -- what is found, and whether it is, goes by the numbers that stand in the file
    gauged_same : read_film l ≡ read_film m
    unfolding file_check
    gauged_same =
        (λ k. answer_by
        (fields_check (gauged (carried_same k) (ringed (rows_same k) (columns_same k)) ++ present gauged_optional (optional_same k)) l or_else held_check (none_same k) (formed (numbers_same k)))
        (weighted_gauge (numbers_same k) (weights_for (none_same k) (formed (numbers_same k)))))
        ∙ ap (λ c. answer_by (c or_else held_check (weightless m) (formed (numbers_in m))) (gauge_in m)) (fields_same (gauged w t ++ present gauged_optional (gauged_parts m)) local near)

    coefficients_same : read_coefficients l ≡ read_coefficients m
    unfolding coefficient_file_check
    coefficients_same =
        (λ k. answer_by
        (fields_check (coefficient_fields (carried_same k) (cells (rows_same k) (columns_same k))) l or_else coefficient_check (coefficients_stand k) or_else held_check (none_same k) (coefficients_stand k))
        (weighted (coefficients_stand k) (weights_for (none_same k) (coefficients_stand k))))
        ∙ ap (λ c. answer_by (c or_else coefficient_check (coefficients_in m) or_else held_check (weightless m) (coefficients_in m)) (film_in m))
        (fields_same (coefficient_fields w n) (coefficients_local w n) (omega (arith, low, few)))

    tag_same : tagged06 l ≡ tagged06 m
    tag_same = rw (carried_same) (ap (λ b. eqb b 6) (A.same (fields_end (opening w) 0) (omega (arith, low, few))))

    shaped_same : read_either l ≡ read_either m
    shaped_same = λ k. cond (tag_same k) (coefficients_same k) (formed_by (gauged_same k))

  -- a shape that is refused is refused alike
  shape_same : field_test shape_field l 0 ≡ field_test shape_field m 0
  shape_same = ap₂ ◌or_else◌ (field_same A 0 1 2 (omega arith)) (λ k. shape_check (rows_same k) rows_offset (columns_same k) columns_offset)

  either_same : read_either l ≡ read_either m
  either_same = go (field_test shape_field m 0) refl
    where
      go : (c : Check) → field_test shape_field m 0 ≡ c → read_either l ≡ read_either m
      go pass e = shaped_same (shape_passes _ _ rows_offset columns_offset (or_else_parts (field_at m 0 1 2) _ e).1)
      go (fail number place) e = shape_refused l number place (shape_same ∙ e) ∙ sym (shape_refused m number place e)

-- What lies beyond the largest film cannot change what is read: one byte more than the longest accepted file decides it ..
pub read_prefix : (bytes : List ℕ) → read_either (take enough bytes) ≡ read_either bytes
read_prefix bytes =
    elim (dec_lt (length bytes) enough) [
      | yes h ↦ ap read_either (take_all enough bytes (omega arith))
      | no h ↦ either_same (take enough bytes) bytes (cut_agrees bytes (omega arith))
    ]

-- .. nor the report.
pub report_prefix : (bytes : List ℕ) → report_of (take enough bytes) ≡ report_of bytes
report_prefix bytes = ap report_by (read_prefix bytes)
