-- Reader, writer and converter of coefficient films, as promises of the calls: from nothing but the records that stand in their `ensures`.
use Rattle.std.specs.Prelude.{Option}
use mathlib.Core.Path.{◌≡◌, sym, ap, ◌∙◌, subst}
use mathlib.Core.Bool.{Bool, true, false, not}
use mathlib.Core.List.{List}
use Prim.Native.Nat.{ℕ, ◌+◌, ◌*◌, ◌<◌}
use native.Mathlib.Omega.{arith}
use borrow.Author.Tests.{eq-eqb, not-false}
use lib.IntN.{ℤ}
use lib.ListN.{length, get_or, take}
use Rattle.model.specs.declared.Head.{Head}
use Rattle.model.specs.Refusals.{pass, fail_if}
use Rattle.model.specs.Gauge.{Gauge}
use Rattle.model.specs.Film.{Film, film_of, size_of}
use Rattle.model.specs.Coefficients.{formed}
use Rattle.model.specs.Checks.{shape_check, film_fits}
use Rattle.model.specs.Result.{Answer, answered, refused, answer_by, Gives}
use Rattle.model.specs.File.{cells, rows_offset, columns_offset, cells_in, weightless, Bytes, Values, InPlace}
use Rattle.model.specs.FileCalls.{film, Loads, used}
use Rattle.model.specs.CoefficientFile.{coefficient_end, film_in, coefficient_file_check, read_coefficients, coefficient_file_of, writer_check, CoefficientValues}
use Rattle.model.specs.CoefficientCalls.{film_head, buffers_fit, coefficient_load_check, LoadsFilm, LoadsCoefficients, used_film, coefficient_save_check, coefficient_save_call, convert_check, convert_call}
use Rattle.model.specs.EitherFile.{read_either}
use Rattle.model.proofs.Lists.{tabulate_length}
use Rattle.model.proofs.Checks.{and_parts, or_else_parts, fail_if_pass}
use Rattle.model.proofs.Opening.{placed_length}
use Rattle.model.proofs.File.{read_values}
use Rattle.model.proofs.Inverse.{answer_passed, save_gauge, laid, refused_same, read_film_lem}
use Rattle.model.proofs.CoefficientFile.{coefficients_length, coefficients_written, coefficients_write, coefficients_accepted, coefficients_values, coefficients_placed, placed_coefficients, converted_reads}
use Rattle.model.proofs.EitherFile.{converted_same}
use Rattle.model.specs.declared.Factors.{Factors}

-- ---- the reader

module _ (bytes weights diagonals rights ups : List ℕ) (sources : List ℤ) {weights' diagonals' rights' ups' : List ℕ} {sources' : List ℤ} where
  -- What it answers is what the file's bytes say: the film whose numbers it laid over its buffers, ..
  pub read_coefficients_lem : (h : Head) → LoadsCoefficients bytes weights diagonals rights ups sources (answered h) weights' diagonals' rights' ups' sources'
      → read_coefficients bytes ≡ answered (used_film h weights' diagonals' rights' ups' sources')
  read_coefficients_lem h L =
      let f = film_in bytes in
      let n = cells_in bytes in
      let told = answer_passed (coefficient_load_check bytes weights diagonals rights ups sources) (film_head f) L.answer_is in
      let loaded : coefficient_load_check bytes weights diagonals rights ups sources ≡ pass = told.0 in
      let head : h ≡ film_head f = told.1 in
      let accepts : coefficient_file_check bytes ≡ pass = (or_else_parts (fail_if (not (buffers_fit weights diagonals rights ups sources)) 10 0) _ loaded).1 in
      let reads : read_coefficients bytes ≡ answered f = ap (λ c. answer_by c f) accepts in
      let ws : take n weights' ≡ f.weights = laid f.weights weights (rw loaded at L.weights_are) (coefficients_accepted bytes f reads).limited.sized.weights_len in
      let ds : take n diagonals' ≡ f.diagonals = laid f.diagonals diagonals (rw loaded at L.diagonals_are) (tabulate_length n _) in
      let rs : take n rights' ≡ f.rights = laid f.rights rights (rw loaded at L.rights_are) (tabulate_length n _) in
      let us : take n ups' ≡ f.ups = laid f.ups ups (rw loaded at L.ups_are) (tabulate_length n _) in
      let ss : take n sources' ≡ f.sources = laid f.sources sources (rw loaded at L.sources_are) (tabulate_length n _) in
      let same : used_film h weights' diagonals' rights' ups' sources' ≡ f =
      ap (λ x. used_film x weights' diagonals' rights' ups' sources') head ∙ (λ k. film_of (film_head f) (ws k) (ds k) (rs k) (us k) (ss k)) in
      reads ∙ ap answered (sym same)

  -- .. or the file's refusal.
  pub coefficients_refusal : (number place : ℕ) → buffers_fit weights diagonals rights ups sources ≡ true
      → LoadsCoefficients bytes weights diagonals rights ups sources (refused number place) weights' diagonals' rights' ups' sources'
      → read_coefficients bytes ≡ refused number place
  coefficients_refusal number place fits L =
      let same : coefficient_load_check bytes weights diagonals rights ups sources ≡ coefficient_file_check bytes = rw fits in
      refused_same (coefficient_file_check bytes) (film_head (film_in bytes)) (film_in bytes) (rw same at L.answer_is)

  -- What it gives of a file that is known to read as f, in buffers of 1,024: the film, laid over them.
  loads_film : (f : Film) {answer : Answer Head} → read_coefficients bytes ≡ answered f → buffers_fit weights diagonals rights ups sources ≡ true
      → LoadsCoefficients bytes weights diagonals rights ups sources answer weights' diagonals' rights' ups' sources'
      → LoadsFilm pass f weights diagonals rights ups sources answer weights' diagonals' rights' ups' sources'
  loads_film f {answer} e fits L =
      let read = answer_passed (coefficient_file_check bytes) (film_in bytes) (sym e) in
      let passed : coefficient_load_check bytes weights diagonals rights ups sources ≡ pass = rw fits read.0 in
      subst (λ (x : Film). LoadsFilm pass x weights diagonals rights ups sources answer weights' diagonals' rights' ups' sources') (sym read.1)
      (subst (λ c. LoadsFilm c (film_in bytes) weights diagonals rights ups sources answer weights' diagonals' rights' ups' sources') passed L)

-- ---- the writer

-- its tests of the film, and that all slices fit
writer_parts : (f : Film) (fits : Bool) → writer_check f fits ≡ pass → (fits ≡ true) × (writer_check f true ≡ pass)
unfolding writer_check
writer_parts f fits e =
    let a = or_else_parts (shape_check f.rows rows_offset f.columns columns_offset) _ e in
    let b = or_else_parts (fail_if (not fits) 10 0) _ a.1 in
    let t : fits ≡ true = not-false fits (fail_if_pass (not fits) 10 0 b.0) in
    (t, subst (λ (x : Bool). writer_check f x ≡ pass) t e)

module _ {weights diagonals rights ups weights' diagonals' rights' ups' : List ℕ} {sources sources' : List ℤ} {answer : Answer Head} where
  -- Written, then read: the film, laid over the reader's buffers.
  pub coefficients_write_read : (f : Film) (out out' : List ℕ) → ((i : ℕ) → get_or f.weights i 0 < 65536)
      → Gives (coefficient_save_call f out) (answered tt) out' → buffers_fit weights diagonals rights ups sources ≡ true
      → LoadsCoefficients out' weights diagonals rights ups sources answer weights' diagonals' rights' ups' sources'
      → LoadsFilm pass f weights diagonals rights ups sources answer weights' diagonals' rights' ups' sources'
  coefficients_write_read f out out' words s fits L =
      let saved : coefficient_save_check f out ≡ pass = (answer_passed (coefficient_save_check f out) tt s.answer_is).0 in
      let bytes : out' ≡ coefficient_file_of f = rw saved at s.lent_is in
      let parts = writer_parts f _ saved in
      let values : CoefficientValues f = record { fits = (and_parts (film_fits f) _ parts.0).0; weight_word = words } in
      loads_film out' weights diagonals rights ups sources f (ap read_coefficients bytes ∙ coefficients_written f values parts.1) fits L

  -- Converted, then read: the film that forming gives.
  pub convert_read : (g : Gauge) (out out' : List ℕ) → Values g
      → Gives (convert_call g out) (answered tt) out' → buffers_fit weights diagonals rights ups sources ≡ true
      → LoadsCoefficients out' weights diagonals rights ups sources answer weights' diagonals' rights' ups' sources'
      → LoadsFilm pass (formed g) weights diagonals rights ups sources answer weights' diagonals' rights' ups' sources'
  convert_read g out out' v s fits L =
      let saved : convert_check g out ≡ pass = (answer_passed (convert_check g out) tt s.answer_is).0 in
      let bytes : out' ≡ coefficient_file_of (formed g) = rw saved at s.lent_is in
      loads_film out' weights diagonals rights ups sources (formed g) (ap read_coefficients bytes ∙ converted_reads g v (save_gauge g _ saved)) fits L

-- Read, then written: the writer writes the file's own bytes, if it has its weights.
pub coefficients_read_write : (bytes weights diagonals rights ups : List ℕ) (sources : List ℤ) {weights' diagonals' rights' ups' : List ℕ} {sources' : List ℤ} (out out' : List ℕ) (h : Head) (answer : Answer (Unit {0}))
    → Bytes bytes → weightless bytes ≡ false → LoadsCoefficients bytes weights diagonals rights ups sources (answered h) weights' diagonals' rights' ups' sources'
    → length out ≡ length bytes
    → Gives (coefficient_save_call (used_film h weights' diagonals' rights' ups' sources') out) answer out'
    → (answer ≡ answered tt) × (out' ≡ bytes)
coefficients_read_write bytes weights diagonals rights ups sources {weights'} {diagonals'} {rights'} {ups'} {sources'} out out' h answer B c L e s =
    let f = used_film h weights' diagonals' rights' ups' sources' in
    let reads = read_coefficients_lem bytes weights diagonals rights ups sources h L in
    let values = coefficients_values bytes f B reads in
    let whole : coefficient_file_of f ≡ bytes = coefficients_write bytes f B c reads in
    let room : length out ≡ coefficient_end (size_of f) = e ∙ ap length (sym whole) ∙ coefficients_length f values.0 values.1 in
    let saved : coefficient_save_check f out ≡ pass = rw (values.0.fits, eq-eqb _ _ room) values.1 in
    (rw saved at s.answer_is, (rw saved at s.lent_is) ∙ whole)

-- .. and if it has none, into a slice with room for them too, the file with the found weights in place, which reads to the same film.
pub coefficients_read_write_placed : (bytes weights diagonals rights ups : List ℕ) (sources : List ℤ) {weights' diagonals' rights' ups' : List ℕ} {sources' : List ℤ} (out out' : List ℕ) (h : Head) (answer : Answer (Unit {0}))
    → Bytes bytes → weightless bytes ≡ true → LoadsCoefficients bytes weights diagonals rights ups sources (answered h) weights' diagonals' rights' ups' sources'
    → length out ≡ length bytes + 2 * cells h.rows h.columns
    → Gives (coefficient_save_call (used_film h weights' diagonals' rights' ups' sources') out) answer out'
    → (answer ≡ answered tt) × InPlace (take (cells h.rows h.columns) weights') bytes out' × (read_coefficients out' ≡ read_coefficients bytes)
coefficients_read_write_placed bytes weights diagonals rights ups sources {weights'} {diagonals'} {rights'} {ups'} {sources'} out out' h answer B c L e s =
    let f = used_film h weights' diagonals' rights' ups' sources' in
    let reads = read_coefficients_lem bytes weights diagonals rights ups sources h L in
    let values = coefficients_values bytes f B reads in
    let P : InPlace f.weights bytes (coefficient_file_of f) = coefficients_placed bytes f B c reads in
    let count : length f.weights ≡ size_of f = (coefficients_accepted bytes f reads).limited.sized.weights_len in
    let room : length out ≡ coefficient_end (size_of f) = omega (arith, e, placed_length P, count, coefficients_length f values.0 values.1) in
    let saved : coefficient_save_check f out ≡ pass = rw (values.0.fits, eq-eqb _ _ room) values.1 in
    let file : out' ≡ coefficient_file_of f = rw saved at s.lent_is in
    (rw saved at s.answer_is, subst (λ (l : List ℕ). InPlace f.weights bytes l) (sym file) P, ap read_coefficients file ∙ placed_coefficients bytes f B reads)

-- Read by the reader of gauged films, then converted: the converter does not refuse it, and its file has the same film.
pub read_convert : (bytes weights thicknesses weights' thicknesses' out out' : List ℕ) (h : Head) (wedge : ℤ) (steps : Option Factors) (answer : Answer (Unit {0})) → Bytes bytes
    → Loads bytes weights thicknesses (answered (film h wedge steps)) weights' thicknesses'
    → length out ≡ coefficient_end (cells h.rows h.columns)
    → Gives (convert_call (used h wedge steps weights' thicknesses') out) answer out'
    → (answer ≡ answered tt) × (read_either out' ≡ read_either bytes)
read_convert bytes weights thicknesses weights' thicknesses' out out' h wedge steps answer B L e s =
    let g = used h wedge steps weights' thicknesses' in
    let reads = read_film_lem bytes weights thicknesses weights' thicknesses' h wedge steps B L in
    let values = read_values bytes g B reads in
    let saved : convert_check g out ≡ pass =
    rw (eq-eqb _ _ values.0.weights_len, eq-eqb _ _ values.0.thicknesses_len, eq-eqb _ _ e) values.1 in
    let file : out' ≡ coefficient_file_of (formed g) = rw saved at s.lent_is in
    (rw saved at s.answer_is, ap read_either file ∙ converted_same bytes g B reads)
