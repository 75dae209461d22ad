-- Reading and writing coefficient film files are inverse (document 02, W1), by the same laws of fields as in `File`, and so with files that leave the weights
-- to the program (W5); and a converted thickness film reads as the film that its numbers form.
use mathlib.Core.Path.{◌≡◌, refl, sym, ap, ap₂, ◌∙◌, subst}
use mathlib.Core.Bool.{Bool, true, false, cond}
use mathlib.Core.List.{List, [], ◌∷◌, ◌++◌}
use Prim.Native.Nat.{ℕ, ◌+◌, ◌*◌, ◌≤◌, ◌<◌}
use native.Mathlib.Nat.{zero-add, mul-le-mul, mul-pos}
use native.Mathlib.Omega.{arith}
use borrow.Author.Tests.{eqb-false, eq-eqb, ne_eqb}
use lib.Dec.{eqb}
use lib.IntN.{pos}
use lib.ListN.{length, get_or}
use Rattle.model.specs.Limits.{side_limit, ceiling_limit, weight_limit}
use Rattle.model.specs.Lists.{tabulate}
use Rattle.model.specs.Refusals.{Check, pass, fail, ◌or_else◌}
use Rattle.model.specs.Gauge.{Gauge}
use Rattle.model.specs.Film.{Film, size_of, weighted, diagonal_at, right_at, up_at, source_at}
use Rattle.model.specs.Coefficients.{formed}
use Rattle.model.specs.Checks.{shape_check, ceiling_check, film_fits, coefficient_check, weight_check, dominance_check, size_check, bad_coefficient, not_dominant}
use Rattle.model.specs.Accepted.{Sized, Limited, Accepted}
use Rattle.model.specs.Weighing.{found_weights, search_check, weights_for, held_check, Weights, LeastWeights}
use Rattle.model.specs.Result.{answered, refused, answer_by}
use Rattle.model.specs.Bytes.{byte_at, word_at, long_at, long, listed}
use Rattle.model.specs.Fields.{Field, field, fields_end, bytes_of}
use Rattle.model.specs.File.{rows_offset, columns_offset, ceiling_offset, weights_offset, cells_in, weightless, fields_check, weight_bytes, weights_check, gauge_check, Bytes, Values, InPlace}
use Rattle.model.specs.CoefficientFile.{diagonals_field, rights_field, ups_field, sources_field, coefficient_fields, diagonals_offset, rights_offset, ups_offset, sources_offset, coefficient_end, longs_at, signed_quads_at, coefficients_in, coefficient_fields_in, coefficient_file_check, read_coefficients, source_bytes, coefficient_bodies, coefficient_file_of, writer_check, CoefficientValues}
use Rattle.model.proofs.Lists.{tabulate_length, tabulate_below}
use Rattle.model.proofs.Checks.{within, or_else_parts, pass_both, fail_if_pass, fail_first_pass, fits_lengths, coefficient_passes, answer_passed, refusal_of_lem}
use Rattle.model.proofs.Codes.{bytes_nil, bytes_cons, word_code, long_code, signed_quad_code, within_abs, listed_length, listed_writes, listed_bytes}
use Rattle.model.proofs.Fields.{Passes, fields_pass, pass_fields, bodies_in, whole_file, begins_whole, Fit, Laid, laid, bytes_length}
use Rattle.model.proofs.Opening.{shape_passes, has_weights, Continues, continues, list_inside, Opened, opening_reads}
use Rattle.model.proofs.Numbered.{searched_coefficients}
use Rattle.model.proofs.Weighing.{ones, found_least, found_accepted, none_found, least_weighted}
use Rattle.model.proofs.File.{weights_alike, fields_bytes}
use Rattle.model.proofs.Forming.{outside_false, pass_first, accepted_passes, formed_accepted}

-- ---- the tests of shape, ceiling, weights, coefficients and row sums say that the film is accepted, and back

pub record WriterPassed (f : Film) : Type 0 where
  pub shape : shape_check f.rows rows_offset f.columns columns_offset ≡ pass
  pub ceiling : ceiling_check f.ceiling ceiling_offset ≡ pass
  pub weights : weights_check f.weights (size_of f) ≡ pass
  pub coefficients : coefficient_check f ≡ pass
  pub dominant : dominance_check f ≡ pass

pub writer_passes : (f : Film) → writer_check f true ≡ pass → WriterPassed f
unfolding writer_check
writer_passes f e =
    let a = or_else_parts (shape_check f.rows rows_offset f.columns columns_offset) _ e in
    let b = or_else_parts (ceiling_check f.ceiling ceiling_offset) _ a.1 in
    let c = or_else_parts (weights_check f.weights (size_of f)) _ b.1 in
    let d = or_else_parts (coefficient_check f) _ c.1 in
    record { shape = a.0; ceiling = b.0; weights = c.0; coefficients = d.0; dominant = d.1 }

writer_tests : (f : Film) → WriterPassed f → writer_check f true ≡ pass
unfolding writer_check
writer_tests f p = pass_both p.shape (pass_both p.ceiling (pass_both p.weights (pass_both p.coefficients p.dominant)))

pub passed_sized : (f : Film) → film_fits f ≡ true → shape_check f.rows rows_offset f.columns columns_offset ≡ pass → ceiling_check f.ceiling ceiling_offset ≡ pass → Sized f
passed_sized f fits shape ceiling =
    let s = shape_passes f.rows f.columns rows_offset columns_offset shape in
    let top = within f.ceiling 1 ceiling_limit (fail_if_pass _ 5 ceiling_offset ceiling) in
    let lengths = fits_lengths f fits in
    record {
      rows_some = s.rows_some;
      rows_low = s.rows_low;
      columns_some = s.columns_some;
      columns_low = s.columns_low;
      ceiling_some = top.0;
      ceiling_low = top.1;
      weights_len = lengths.0;
      diagonals_len = lengths.1;
      rights_len = lengths.2;
      ups_len = lengths.3;
      sources_len = lengths.4;
    }

pub writer_accepted : (f : Film) → film_fits f ≡ true → WriterPassed f → Accepted f
unfolding dominance_check not_dominant
writer_accepted f fits p =
    let none = fail_first_pass (λ i. eqb (get_or f.weights i 0) 0) (size_of f) 6 (λ i. weights_offset + 2 * i) p.weights in
    record {
      limited = coefficient_passes f (passed_sized f fits p.shape p.ceiling) p.coefficients;
      weight = λ i h. omega (arith, eqb-false (get_or f.weights i 0) 0 (none i h));
      dominant = λ i h. fail_first_pass _ _ 9 (λ i. i) p.dominant i h;
    }

pub accepted_writer : (f : Film) → Accepted f → WriterPassed f
accepted_writer f A =
    let s = A.limited.sized in
    let a = or_else_parts (size_check f true) _ (accepted_passes f A) in
    let b = or_else_parts (coefficient_check f) _ a.1 in
    let c = or_else_parts (weight_check f) _ b.1 in
    let d = or_else_parts (dominance_check f) _ c.1 in
    record {
      shape = rw (outside_false f.rows 1 side_limit s.rows_some s.rows_low, outside_false f.columns 1 side_limit s.columns_some s.columns_low);
      ceiling = rw (outside_false f.ceiling 1 ceiling_limit s.ceiling_some s.ceiling_low);
      weights = pass_first (λ i. eqb (get_or f.weights i 0) 0) (size_of f) 6 (λ i. weights_offset + 2 * i) (λ i h. ne_eqb (get_or f.weights i 0) 0 (λ e. omega (arith, A.weight i h)));
      coefficients = b.0;
      dominant = d.0;
    }

accepted_fits : (f : Film) → Accepted f → film_fits f ≡ true
unfolding film_fits
accepted_fits f A =
    let s = A.limited.sized in
    rw (eq-eqb _ _ s.weights_len, eq-eqb _ _ s.diagonals_len, eq-eqb _ _ s.rights_len, eq-eqb _ _ s.ups_len, eq-eqb _ _ s.sources_len)

-- an accepted film, with weights of 16 bits
record Writes (f : Film) : Type 0 where
  accepted : Accepted f
  word : (i : ℕ) → i < size_of f → get_or f.weights i 0 < 65536

writes : (f : Film) → CoefficientValues f → writer_check f true ≡ pass → Writes f
writes f v e = record { accepted = writer_accepted f v.fits (writer_passes f e); word = λ i h. v.weight_word i }

-- ---- the numbers of a file with so many weights

abbrev pub coefficients_by : ℕ → List ℕ → Film
coefficients_by w l =
    let n = cells_in l in
    record {
      rows = byte_at l rows_offset;
      columns = byte_at l columns_offset;
      ceiling = long_at l ceiling_offset;
      weights = tabulate w (λ i. word_at l (weights_offset + 2 * i));
      diagonals = longs_at l (diagonals_offset w) n;
      rights = longs_at l (rights_offset w n) n;
      ups = longs_at l (ups_offset w n) n;
      sources = signed_quads_at l (sources_offset w n) n;
    }

-- a file with a weight for each cell
abbrev pub standing : List ℕ → Film
standing l = coefficients_by (cells_in l) l

-- what is read, by whether the file leaves the weights to the program
module _ (none : Bool) (l : List ℕ) where
  -- as many weights as it has
  abbrev has_of : ℕ
  has_of = cond none 0 (cells_in l)

  abbrev fields_by : List Field
  fields_by = coefficient_fields has_of (cells_in l)

  abbrev check_by : Check
  check_by = fields_check fields_by l or_else coefficient_check (coefficients_by has_of l) or_else held_check none (coefficients_by has_of l)

  abbrev film_by : Film
  film_by = weighted (coefficients_by has_of l) (weights_for none (coefficients_by has_of l))

-- ---- what is written reads back

module _ (f : Film) (w : Writes f) where
  abbrev fields_of : List Field
  fields_of = coefficient_fields (size_of f) (size_of f)

  sized : Sized f
  sized = w.accepted.limited.sized

  bodies_fit : Fit fields_of (coefficient_bodies f)
  bodies_fit = (
    refl,
    (
      refl,
      (
        listed_length word_code f.weights ∙ ap (λ (n : ℕ). 2 * n) sized.weights_len,
        (
          listed_length long_code f.diagonals ∙ ap (λ (n : ℕ). 4 * n) sized.diagonals_len,
          (
            listed_length long_code f.rights ∙ ap (λ (n : ℕ). 4 * n) sized.rights_len,
            (
              listed_length long_code f.ups ∙ ap (λ (n : ℕ). 4 * n) sized.ups_len,
              (listed_length signed_quad_code f.sources ∙ ap (λ (n : ℕ). 8 * n) sized.sources_len, tt),
            ),
          ),
        ),
      ),
    ),
  )

  -- numbers within their limits have their widths
  diagonal_long : (i : ℕ) → i < size_of f → diagonal_at f i < 4294967296
  diagonal_long i h = omega (arith, (w.accepted.limited.cell i h).diagonal_low)

  right_long : (i : ℕ) → i < size_of f → right_at f i < 4294967296
  right_long i h = omega (arith, (w.accepted.limited.cell i h).right_low)

  up_long : (i : ℕ) → i < size_of f → up_at f i < 4294967296
  up_long i h = omega (arith, (w.accepted.limited.cell i h).up_low)

  -- where the film's fields stand in a file, the film that stands there is this one
  laid_reads : (l : List ℕ) → Laid fields_of (coefficient_bodies f) l 0 → standing l ≡ f
  laid_reads l L = λ k.
      record {
        rows = opened.rows_are k;
        columns = opened.columns_are k;
        ceiling = opened.ceiling_is k;
        weights = opened.weights_are k;
        diagonals = diagonals k;
        rights = rights k;
        ups = ups k;
        sources = sources k;
      }
    where
      opened : Opened f.rows f.columns f.ceiling f.weights l
      opened = opening_reads f.rows f.columns f.ceiling f.weights l sized.weights_len (omega (arith, sized.ceiling_low)) w.word L.0 L.1.0 L.1.1.0

      diagonals : (standing l).diagonals ≡ f.diagonals
      diagonals = rw (opened.rows_are, opened.columns_are) (list_inside long_code f.diagonals 0 (size_of f) sized.diagonals_len diagonal_long L.1.1.1.0)

      rights : (standing l).rights ≡ f.rights
      rights = rw (opened.rows_are, opened.columns_are) (list_inside long_code f.rights 0 (size_of f) sized.rights_len right_long L.1.1.1.1.0)

      ups : (standing l).ups ≡ f.ups
      ups = rw (opened.rows_are, opened.columns_are) (list_inside long_code f.ups 0 (size_of f) sized.ups_len up_long L.1.1.1.1.1.0)

      sources : (standing l).sources ≡ f.sources
      sources =
          rw (opened.rows_are, opened.columns_are)
          (list_inside signed_quad_code f.sources (pos 0) (size_of f) sized.sources_len
          (λ i h. within_abs 9223372036854775808 (source_at f i) (omega (arith, (w.accepted.limited.cell i h).source_low))) L.1.1.1.1.1.1.0)

  film_laid : Laid fields_of (coefficient_bodies f) (coefficient_file_of f) 0
  unfolding coefficient_file_of
  film_laid = laid fields_of (coefficient_bodies f) (coefficient_file_of f) [] 0 bodies_fit refl (begins_whole (coefficient_file_of f))

  written_length : length (coefficient_file_of f) ≡ coefficient_end (size_of f)
  unfolding coefficient_file_of
  written_length = sym (zero-add _) ∙ bytes_length fields_of (coefficient_bodies f) 0 bodies_fit

  -- it has its weights
  written_weights : weightless (coefficient_file_of f) ≡ false
  written_weights = has_weights (coefficient_file_of f) (size_of f) film_laid.1.1.0.passes (mul-pos sized.rows_some sized.columns_some)

  -- The writer's file is accepted, and its film is the one that was written.
  film_reads : read_coefficients (coefficient_file_of f) ≡ answered f
  unfolding coefficient_file_check
  film_reads =
      let l = coefficient_file_of f in
      let same : standing l ≡ f = laid_reads l film_laid in
      let p = subst WriterPassed (sym same) (accepted_writer f w.accepted) in
      let L : Laid (coefficient_fields (cells_in l) (cells_in l)) (coefficient_bodies f) l 0 =
      subst (λ (h : Film). Laid (coefficient_fields (size_of h) (size_of h)) (coefficient_bodies f) l 0) (sym same) film_laid in
      let walks : Passes (coefficient_fields (cells_in l) (cells_in l)) l 0 = (
        L.0.passes,
        p.shape,
        (
          L.1.0.passes,
          p.ceiling,
          (
            L.1.1.0.passes,
            sym (weights_alike l (cells_in l) weights_offset) ∙ p.weights,
            (
              L.1.1.1.0.passes,
              refl,
              (L.1.1.1.1.0.passes, refl, (L.1.1.1.1.1.0.passes, refl, (L.1.1.1.1.1.1.0.passes, refl, tt))),
            ),
          ),
        ),
      ) in
      let end : length l ≡ coefficient_end (cells_in l) = written_length ∙ ap (λ (h : Film). coefficient_end (size_of h)) (sym same) in
      let fields = pass_fields (coefficient_fields (cells_in l) (cells_in l)) l walks (omega (arith, end)) in
      ap (λ none. answer_by (check_by none l) (film_by none l)) written_weights
      ∙ ap₂ answer_by (pass_both fields (pass_both p.coefficients p.dominant)) same

  film_bytes : Bytes (coefficient_file_of f)
  unfolding coefficient_file_of
  film_bytes =
      let count : size_of f ≤ side_limit * side_limit = mul-le-mul sized.rows_low sized.columns_low in
      let shape : Bytes (f.rows ∷ f.columns ∷ []) = bytes_cons (omega (arith, sized.rows_low)) (bytes_cons (omega (arith, sized.columns_low)) bytes_nil) in
      fields_bytes fields_of (coefficient_bodies f) (
        omega arith,
        omega arith,
        shape,
        (
          omega arith,
          omega arith,
          long_code.bytes f.ceiling (omega (arith, sized.ceiling_low)),
          (
            omega arith,
            omega arith,
            listed_bytes word_code f.weights 0 (λ i h. w.word i (omega (arith, sized.weights_len))),
            (
              omega arith,
              omega arith,
              listed_bytes long_code f.diagonals 0 (λ i h. diagonal_long i (omega (arith, sized.diagonals_len))),
              (
                omega arith,
                omega arith,
                listed_bytes long_code f.rights 0 (λ i h. right_long i (omega (arith, sized.rights_len))),
                (
                  omega arith,
                  omega arith,
                  listed_bytes long_code f.ups 0 (λ i h. up_long i (omega (arith, sized.ups_len))),
                  (
                    omega arith,
                    omega arith,
                    listed_bytes signed_quad_code f.sources (pos 0)
                        (λ i h. within_abs 9223372036854775808 (source_at f i) (omega (arith, (w.accepted.limited.cell i (omega (arith, sized.sources_len))).source_low))),
                    tt,
                  ),
                ),
              ),
            ),
          ),
        ),
      )

-- The writer's file has its length, consists of bytes, and reads back to the film.
pub coefficients_length : (f : Film) → CoefficientValues f → writer_check f true ≡ pass → length (coefficient_file_of f) ≡ coefficient_end (size_of f)
coefficients_length f v e = written_length f (writes f v e)

pub coefficients_bytes : (f : Film) → CoefficientValues f → writer_check f true ≡ pass → Bytes (coefficient_file_of f)
coefficients_bytes f v e = film_bytes f (writes f v e)

pub coefficients_written : (f : Film) → CoefficientValues f → writer_check f true ≡ pass → read_coefficients (coefficient_file_of f) ≡ answered f
coefficients_written f v e = film_reads f (writes f v e)

-- ---- what was read is written back

-- lists of a file have their lengths, and shape and ceiling have passed with its fields: so a film with these numbers is sized, whatever its weights
module _ (l : List ℕ) (w : ℕ) (weights : List ℕ) (e : length weights ≡ cells_in l) where
  pub fits_in : film_fits (weighted (coefficients_by w l) weights) ≡ true
  unfolding film_fits
  fits_in =
      let f = coefficients_by w l in
      let diagonals : length f.diagonals ≡ size_of f = tabulate_length _ _ in
      let rights : length f.rights ≡ size_of f = tabulate_length _ _ in
      let ups : length f.ups ≡ size_of f = tabulate_length _ _ in
      let sources : length f.sources ≡ size_of f = tabulate_length _ _ in
      rw (eq-eqb _ _ e, eq-eqb _ _ diagonals, eq-eqb _ _ rights, eq-eqb _ _ ups, eq-eqb _ _ sources)

  pub sized_in : Passes (coefficient_fields w (cells_in l)) l 0 → Sized (weighted (coefficients_by w l) weights)
  sized_in p = passed_sized (weighted (coefficients_by w l) weights) fits_in p.1 p.2.1

  -- the test of coefficients does not look at weights
  pub limited_in : Passes (coefficient_fields w (cells_in l)) l 0 → coefficient_check (coefficients_by w l) ≡ pass → Limited (weighted (coefficients_by w l) weights)
  unfolding coefficient_check bad_coefficient
  limited_in p c = coefficient_passes (weighted (coefficients_by w l) weights) (sized_in p) c

-- what it says that a file has passed all its tests
record PassedBy (none : Bool) (l : List ℕ) : Type 0 where
  fields : Passes (fields_by none l) l 0
  ends : length l ≤ fields_end (fields_by none l) 0
  coefficients : coefficient_check (coefficients_by (has_of none l) l) ≡ pass
  held : held_check none (coefficients_by (has_of none l) l) ≡ pass

passed_by : (none : Bool) (l : List ℕ) → check_by none l ≡ pass → PassedBy none l
passed_by none l e =
    let a = or_else_parts (fields_check (fields_by none l) l) _ e in
    let b = fields_pass (fields_by none l) l a.0 in
    let c = or_else_parts (coefficient_check (coefficients_by (has_of none l) l)) _ a.1 in
    record { fields = b.0; ends = b.1; coefficients = c.0; held = c.1 }

-- weights that are found are the least, and with them or with its own the film is accepted
found_limited : (l : List ℕ) → PassedBy true l → Limited (weighted (coefficients_by 0 l) (ones (cells_in l)))
found_limited l P = limited_in l 0 (ones (cells_in l)) (tabulate_length _ _) P.fields P.coefficients

found_in : (l : List ℕ) → PassedBy true l → LeastWeights (coefficients_by 0 l) (found_weights (coefficients_by 0 l))
found_in l P = found_least (coefficients_by 0 l) (ones (cells_in l)) (found_limited l P) P.held

film_held : (none : Bool) (l : List ℕ) → PassedBy none l → Accepted (film_by none l)
film_held true l P = found_accepted (coefficients_by 0 l) (ones (cells_in l)) (found_limited l P) P.held
film_held false l P =
    writer_accepted (standing l) (fits_in l (cells_in l) (standing l).weights (tabulate_length _ _))
    (record {
      shape = P.fields.1;
      ceiling = P.fields.2.1;
      weights = weights_alike l (cells_in l) weights_offset ∙ P.fields.2.2.1;
      coefficients = P.coefficients;
      dominant = P.held;
    })

module _ {l : List ℕ} (B : Bytes l) where
  bodies_in_lem : (w : ℕ) → bodies_in (coefficient_fields w (cells_in l)) l 0 ≡ coefficient_bodies (coefficients_by w l)
  bodies_in_lem w =
      let n = cells_in l in
      let ceiling = long_code.writes B ceiling_offset in
      let weights = listed_writes word_code B w weights_offset in
      let diagonals = listed_writes long_code B n (diagonals_offset w) in
      let rights = listed_writes long_code B n (rights_offset w n) in
      let ups = listed_writes long_code B n (ups_offset w n) in
      let sources = listed_writes signed_quad_code B n (sources_offset w n) in
      λ k.
      ((coefficients_by w l).rows ∷ (coefficients_by w l).columns ∷ []) ∷ ceiling k ∷ weights k ∷ diagonals k ∷ rights k ∷ ups k ∷ sources k ∷ []

  fields_are : (w : ℕ) → Passes (coefficient_fields w (cells_in l)) l 0 → length l ≤ fields_end (coefficient_fields w (cells_in l)) 0
      → bytes_of (coefficient_fields w (cells_in l)) (coefficient_bodies (coefficients_by w l)) ≡ l
  fields_are w p h =
      ap (bytes_of (coefficient_fields w (cells_in l))) (sym (bodies_in_lem w)) ∙ whole_file B (coefficient_fields w (cells_in l)) p h

  -- weights have two bytes, those that are found too
  weights_fit : (none : Bool) → PassedBy none l → (i : ℕ) → get_or (film_by none l).weights i 0 < 65536
  weights_fit true P = λ i. omega (arith, (found_in l P).low i)
  weights_fit false P = tabulate_below (cells_in l) _ 65536 (omega arith) (λ i. word_code.fits B (weights_offset + 2 * i))

-- an accepted file has passed its tests, and this is its film
record ReadAs (none : Bool) (l : List ℕ) (f : Film) : Type 0 where
  passed : PassedBy none l
  same : film_by none l ≡ f

read_by : (none : Bool) (l : List ℕ) (f : Film) → answer_by (check_by none l) (film_by none l) ≡ answered f → ReadAs none l f
read_by none l f e =
    let a = answer_passed (check_by none l) (film_by none l) (sym e) in
    record { passed = passed_by none l a.0; same = sym a.1 }

read_as : (l : List ℕ) (f : Film) → read_coefficients l ≡ answered f → ReadAs (weightless l) l f
unfolding coefficient_file_check
read_as l f e = read_by (weightless l) l f e

-- an accepted file has tag 06 behind the weights
pub coefficients_continue : (bytes : List ℕ) (f : Film) → read_coefficients bytes ≡ answered f → Continues bytes 6
coefficients_continue bytes f e =
    let n = cells_in bytes in
    continues bytes (diagonals_field n) (rights_field n ∷ ups_field n ∷ sources_field n ∷ []) (read_as bytes f e).passed.fields

-- What was read is accepted by every call that takes coefficients, ..
pub coefficients_accepted : (bytes : List ℕ) (f : Film) → read_coefficients bytes ≡ answered f → Accepted f
coefficients_accepted bytes f e = let r = read_as bytes f e in subst Accepted r.same (film_held (weightless bytes) bytes r.passed)

-- .. and passes the writer's tests.
pub coefficients_values : (bytes : List ℕ) (f : Film) → Bytes bytes → read_coefficients bytes ≡ answered f → CoefficientValues f × (writer_check f true ≡ pass)
coefficients_values bytes f B e =
    let r = read_as bytes f e in
    let A = coefficients_accepted bytes f e in
    let words = subst (λ (h : Film). (i : ℕ) → get_or h.weights i 0 < 65536) r.same (weights_fit B (weightless bytes) r.passed) in
    (record { fits = accepted_fits f A; weight_word = words }, writer_tests f (accepted_writer f A))

-- Writing what was read gives the file's own bytes, if it has its weights; ..
pub coefficients_write : (bytes : List ℕ) (f : Film) → Bytes bytes → weightless bytes ≡ false → read_coefficients bytes ≡ answered f → coefficient_file_of f ≡ bytes
unfolding coefficient_file_of coefficient_file_check
coefficients_write bytes f B c e =
    let r = read_by false bytes f (subst (λ none. answer_by (check_by none bytes) (film_by none bytes) ≡ answered f) c e) in
    ap coefficient_file_of (sym r.same) ∙ fields_are B (cells_in bytes) r.passed.fields r.passed.ends

-- .. and if it has none, the file with the found weights in place, which reads to the same film.
pub coefficients_placed : (bytes : List ℕ) (f : Film) → Bytes bytes → weightless bytes ≡ true → read_coefficients bytes ≡ answered f → InPlace f.weights bytes (coefficient_file_of f)
unfolding coefficient_file_of coefficient_file_check
coefficients_placed bytes f B c e =
    let r = read_by true bytes f (subst (λ none. answer_by (check_by none bytes) (film_by none bytes) ≡ answered f) c e) in
    subst (λ (h : Film). InPlace h.weights bytes (coefficient_file_of h)) r.same (placed r.passed)
  where
    placed : PassedBy true bytes → InPlace (film_by true bytes).weights bytes (coefficient_file_of (film_by true bytes))
    placed P =
        let h = coefficients_by 0 bytes in
        let n = cells_in bytes in
        let size : 2 * n ≡ 2 * length (film_by true bytes).weights = ap (λ (n : ℕ). 2 * n) (sym (found_in bytes P).holds.len) in
        let back = bytes_of (diagonals_field n ∷ rights_field n ∷ ups_field n ∷ sources_field n ∷ []) (listed long h.diagonals ∷ listed long h.rights ∷ listed long h.ups ∷ listed source_bytes h.sources ∷ []) in
        record {
          front = field 1 2 (h.rows ∷ h.columns ∷ []) ++ field 2 4 (long h.ceiling);
          back = back;
          front_len = refl;
          was = sym (fields_are B 0 P.fields P.ends);
          is = ap (λ (k : ℕ). field 1 2 (h.rows ∷ h.columns ∷ []) ++ field 2 4 (long h.ceiling) ++ field 3 k (weight_bytes (film_by true bytes).weights) ++ back) size;
        }

-- The film that is read from it has the least weights, ..
pub coefficients_least : (bytes : List ℕ) (f : Film) → weightless bytes ≡ true → read_coefficients bytes ≡ answered f → LeastWeights f f.weights
unfolding coefficient_file_check
coefficients_least bytes f c e =
    let r = read_by true bytes f (subst (λ none. answer_by (check_by none bytes) (film_by none bytes) ≡ answered f) c e) in
    subst (λ (h : Film). LeastWeights h h.weights) r.same (least_weighted (film_by true bytes).weights (found_in bytes r.passed))

-- .. and where a file is refused with 16, no weights up to 65,535 do it.
pub coefficients_none : (bytes : List ℕ) (i : ℕ) → read_coefficients bytes ≡ refused 16 i
    → (z : List ℕ) → Weights (coefficients_in bytes) z → ((j : ℕ) → j < cells_in bytes → get_or z j 0 ≤ weight_limit) → ⊥
coefficients_none bytes i e z K low =
    let S = searched_coefficients bytes i (refusal_of_lem _ _ e) in
    let passed = or_else_parts (fields_check (coefficient_fields_in bytes) bytes) (coefficient_check (coefficients_in bytes)) S.fields_passed in
    let fields : fields_check (fields_by true bytes) bytes ≡ pass = subst (λ none. fields_check (fields_by none bytes) bytes ≡ pass) S.none passed.0 in
    let limits : coefficient_check (coefficients_by 0 bytes) ≡ pass = subst (λ none. coefficient_check (coefficients_by (has_of none bytes) bytes) ≡ pass) S.none passed.1 in
    let searched : search_check (coefficients_by 0 bytes) ≡ fail 16 i = subst (λ none. search_check (coefficients_by (has_of none bytes) bytes) ≡ fail 16 i) S.none S.found in
    let L = limited_in bytes 0 (ones (cells_in bytes)) (tabulate_length _ _) (fields_pass (fields_by true bytes) bytes fields).0 limits in
    none_found (coefficients_by 0 bytes) (ones (cells_in bytes)) L i searched z (subst (λ none. Weights (coefficients_by (has_of none bytes) bytes) z) S.none K) low

pub placed_coefficients : (bytes : List ℕ) (f : Film) → Bytes bytes → read_coefficients bytes ≡ answered f → read_coefficients (coefficient_file_of f) ≡ read_coefficients bytes
placed_coefficients bytes f B e = let v = coefficients_values bytes f B e in coefficients_written f v.0 v.1 ∙ sym e

-- ---- what is converted

-- a gauged film's numbers that pass their tests form a film that passes the writer's
formed_writes : (g : Gauge) → Values g → gauge_check g true ≡ pass → Writes (formed g)
formed_writes g v e = record { accepted = formed_accepted g v e; word = λ i h. v.weight_word i }

pub converted_length : (g : Gauge) → Values g → gauge_check g true ≡ pass → length (coefficient_file_of (formed g)) ≡ coefficient_end (size_of (formed g))
converted_length g v e = written_length (formed g) (formed_writes g v e)

pub converted_bytes : (g : Gauge) → Values g → gauge_check g true ≡ pass → Bytes (coefficient_file_of (formed g))
converted_bytes g v e = film_bytes (formed g) (formed_writes g v e)

-- The converter's bytes read as the film that forming gives.
pub converted_reads : (g : Gauge) → Values g → gauge_check g true ≡ pass → read_coefficients (coefficient_file_of (formed g)) ≡ answered (formed g)
converted_reads g v e = film_reads (formed g) (formed_writes g v e)
