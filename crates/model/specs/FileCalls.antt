-- Document 01, "The film file" and "Coefficients": the calls that form coefficients, write a film file and read one.
use Rattle.std.specs.Prelude.{◌≡◌, Bool, not, ◌&&◌, List, [], ◌++◌, ℕ, eqb, ℤ, pos, length, take, drop, Option, None}
use Rattle.model.specs.Refusals.{Check, ◌or_else◌, fail_if}
use Rattle.model.specs.Gauge.{Gauge}
use Rattle.model.specs.Coefficients.{formed}
use Rattle.model.specs.Result.{Answer, answered, answer_by, kept, Result, written, call_by}
use Rattle.model.specs.File.{cells, ringed, gauge_in, gauged_end, gauge_check, file_check, file_of}
use Rattle.model.specs.declared.Head.{Head}
use Rattle.model.specs.declared.Factors.{Factors}
use Rattle.model.specs.declared.Numbers.{Numbers}

-- a film's numbers as a call is lent them
abbrev pub gauge_of : Head → List ℕ → List ℕ → ℤ → Option Factors → Gauge
gauge_of h weights thicknesses wedge steps =
    record {
      rows = h.rows;
      columns = h.columns;
      ceiling = h.ceiling;
      weights = weights;
      thicknesses = thicknesses;
      wedge = wedge;
      steps = steps;
    }

-- its shape and thicknesses alone, where nothing else counts
abbrev pub bare_of : Head → List ℕ → Gauge
bare_of h thicknesses = gauge_of h [] thicknesses (pos 0) None

-- the slices of a film's numbers have exactly their lengths
abbrev pub gauge_fits : Gauge → Bool
gauge_fits g =
    eqb (length g.weights) (cells g.rows g.columns) && eqb (length g.thicknesses) (ringed g.rows g.columns)

-- Forming coefficients: four lent slices of exactly N.
abbrev pub form_check : Gauge → List ℕ → List ℕ → List ℕ → List ℤ → Check
form_check g diagonals rights ups sources =
    gauge_check g
    (gauge_fits g && eqb (length diagonals) (cells g.rows g.columns) && eqb (length rights) (cells g.rows g.columns)
    && eqb (length ups) (cells g.rows g.columns)
    && eqb (length sources) (cells g.rows g.columns))

-- the call's answer and its four slices at exit, from those at entry
pub record Forms (g : Gauge) (diagonals rights ups : List ℕ) (sources : List ℤ) (answer : Answer (Unit {0})) (diagonals' rights' ups' : List ℕ) (sources' : List ℤ)
    : Type 0 where
  pub answer_is : answer ≡ answer_by (form_check g diagonals rights ups sources) tt
  pub diagonals_are : diagonals' ≡ kept (form_check g diagonals rights ups sources) (formed g).diagonals diagonals
  pub rights_are : rights' ≡ kept (form_check g diagonals rights ups sources) (formed g).rights rights
  pub ups_are : ups' ≡ kept (form_check g diagonals rights ups sources) (formed g).ups ups
  pub sources_are : sources' ≡ kept (form_check g diagonals rights ups sources) (formed g).sources sources

-- Writing: a lent slice of exactly the file's length.
abbrev pub save_check : Gauge → List ℕ → Check
save_check g out = gauge_check g (gauge_fits g && eqb (length out) (gauged_end g))

abbrev pub save_call : Gauge → List ℕ → Result (Answer (Unit {0}))
save_call g out = call_by (save_check g out) (written (file_of g)) out

-- Reading: lent buffers of 1,024 weights and 1,156 thicknesses; places beyond those used keep their contents.
pub data LoadAnswer : Type 0 where
  film : Head → ℤ → Option Factors → LoadAnswer

abbrev pub loaded_of : Numbers → LoadAnswer
loaded_of n = film n.head n.wedge n.steps

-- what is answered of a film's numbers: shape, ceiling, wedge and steps
abbrev pub head_of : Gauge → Head
head_of g = record { rows = g.rows; columns = g.columns; ceiling = g.ceiling }

abbrev pub load_answer : Gauge → LoadAnswer
load_answer g = film (head_of g) g.wedge g.steps

abbrev pub load_check : List ℕ → List ℕ → List ℕ → Check
load_check bytes weights thicknesses =
    fail_if (not (eqb (length weights) 1024 && eqb (length thicknesses) 1156)) 10 0 or_else file_check bytes

-- `new` in place of as many numbers at the start of `old`
abbrev pub laid_over : {A : Type 0} → List A → List A → List A
laid_over new old = new ++ drop (length new) old

pub record Loads (bytes weights thicknesses : List ℕ) (answer : Answer LoadAnswer) (weights' thicknesses' : List ℕ) : Type 0 where
  pub answer_is : answer ≡ answer_by (load_check bytes weights thicknesses) (load_answer (gauge_in bytes))
  pub weights_are : weights' ≡ kept (load_check bytes weights thicknesses) (laid_over (gauge_in bytes).weights weights) weights
  pub thicknesses_are : thicknesses' ≡ kept (load_check bytes weights thicknesses) (laid_over (gauge_in bytes).thicknesses thicknesses) thicknesses

-- what the reader gives of a file that the writer made of g: the film's numbers, laid over its buffers
pub record ReadsBack (g : Gauge) (weights thicknesses : List ℕ) (answer : Answer LoadAnswer) (weights' thicknesses' : List ℕ) : Type 0 where
  pub answer_is : answer ≡ answered (load_answer g)
  pub weights_are : weights' ≡ laid_over g.weights weights
  pub thicknesses_are : thicknesses' ≡ laid_over g.thicknesses thicknesses

-- the film whose numbers stand at the starts of a reader's buffers
abbrev pub used : Head → ℤ → Option Factors → List ℕ → List ℕ → Gauge
used h wedge steps weights thicknesses =
    gauge_of h (take (cells h.rows h.columns) weights) (take (ringed h.rows h.columns) thicknesses) wedge steps
