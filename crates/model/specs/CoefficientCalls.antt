-- Document 02, W1: the calls that read a coefficient film's file, write one, and convert a gauged film into one.
use Rattle.std.specs.Prelude.{◌≡◌, Bool, not, ◌&&◌, List, ℕ, eqb, ℤ, length, take}
use Rattle.model.specs.Refusals.{Check, ◌or_else◌, fail_if}
use Rattle.model.specs.Gauge.{Gauge}
use Rattle.model.specs.Film.{Film, film_of, size_of}
use Rattle.model.specs.Coefficients.{formed}
use Rattle.model.specs.Checks.{film_fits}
use Rattle.model.specs.Result.{Answer, answer_by, kept, Result, written, call_by}
use Rattle.model.specs.File.{cells, gauge_check}
use Rattle.model.specs.FileCalls.{gauge_fits, laid_over}
use Rattle.model.specs.CoefficientFile.{coefficient_end, film_in, coefficient_file_check, coefficient_file_of, writer_check}
use Rattle.model.specs.declared.Head.{Head}

-- Reading: five lent buffers of 1,024 numbers; places beyond those used keep their contents. What is answered of a film: shape and ceiling.
abbrev pub film_head : Film → Head
film_head f = record { rows = f.rows; columns = f.columns; ceiling = f.ceiling }

abbrev pub buffers_fit : List ℕ → List ℕ → List ℕ → List ℕ → List ℤ → Bool
buffers_fit weights diagonals rights ups sources =
    eqb (length weights) 1024 && eqb (length diagonals) 1024 && eqb (length rights) 1024 && eqb (length ups) 1024 && eqb (length sources) 1024

abbrev pub coefficient_load_check : List ℕ → List ℕ → List ℕ → List ℕ → List ℕ → List ℤ → Check
coefficient_load_check bytes weights diagonals rights ups sources =
    fail_if (not (buffers_fit weights diagonals rights ups sources)) 10 0 or_else coefficient_file_check bytes

-- the answer and the five buffers at exit, from those at entry, where the tests found c and the film is f
pub record LoadsFilm (c : Check) (f : Film) (weights diagonals rights ups : List ℕ) (sources : List ℤ) (answer : Answer Head) (weights' diagonals' rights' ups' : List ℕ) (sources' : List ℤ)
    : Type 0 where
  pub answer_is : answer ≡ answer_by c (film_head f)
  pub weights_are : weights' ≡ kept c (laid_over f.weights weights) weights
  pub diagonals_are : diagonals' ≡ kept c (laid_over f.diagonals diagonals) diagonals
  pub rights_are : rights' ≡ kept c (laid_over f.rights rights) rights
  pub ups_are : ups' ≡ kept c (laid_over f.ups ups) ups
  pub sources_are : sources' ≡ kept c (laid_over f.sources sources) sources

-- the reader: its tests, and the film that stands in the file
abbrev pub LoadsCoefficients : List ℕ → List ℕ → List ℕ → List ℕ → List ℕ → List ℤ → Answer Head → List ℕ → List ℕ → List ℕ → List ℕ → List ℤ → Type 0
LoadsCoefficients bytes weights diagonals rights ups sources =
    LoadsFilm (coefficient_load_check bytes weights diagonals rights ups sources) (film_in bytes) weights diagonals rights ups sources

-- the film whose numbers stand at the starts of a reader's buffers
abbrev pub used_film : Head → List ℕ → List ℕ → List ℕ → List ℕ → List ℤ → Film
used_film h weights diagonals rights ups sources =
    let n = cells h.rows h.columns in
    film_of h (take n weights) (take n diagonals) (take n rights) (take n ups) (take n sources)

-- Writing: a lent slice of exactly the file's length.
abbrev pub coefficient_save_check : Film → List ℕ → Check
coefficient_save_check f out = writer_check f (film_fits f && eqb (length out) (coefficient_end (size_of f)))

abbrev pub coefficient_save_call : Film → List ℕ → Result (Answer (Unit {0}))
coefficient_save_call f out = call_by (coefficient_save_check f out) (written (coefficient_file_of f)) out

-- Converting: the file of the film that a gauged film's numbers form, into a lent slice of exactly its length. It is refused as forming is.
abbrev pub convert_check : Gauge → List ℕ → Check
convert_check g out = gauge_check g (gauge_fits g && eqb (length out) (coefficient_end (cells g.rows g.columns)))

abbrev pub convert_call : Gauge → List ℕ → Result (Answer (Unit {0}))
convert_call g out = call_by (convert_check g out) (written (coefficient_file_of (formed g))) out
