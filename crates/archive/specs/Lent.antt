-- A film as a caller in C hands it over, and what a call with lent slices leaves.
use Rattle.std.specs.Prelude.{◌≡◌, cond, List, ℕ, ◌*◌, eqb, ℤ, get_or, take, Option, Some, None}
use Rattle.model.specs.Gauge.{Gauge}
use Rattle.model.specs.Film.{Film, film_of}
use Rattle.model.specs.Result.{Answer, answer_by, refusal_in, Result}
use Rattle.model.specs.File.{gauge_in}
use Rattle.model.specs.FileCalls.{LoadAnswer, Forms, Loads, form_check, load_answer, load_check}
use Rattle.model.specs.CoefficientFile.{film_in}
use Rattle.model.specs.CoefficientCalls.{film_head, coefficient_load_check, LoadsCoefficients, used_film}
use Rattle.model.specs.declared.Head.{Head}
use Rattle.told.specs.Refused.{Told}
use Rattle.tell_files.specs.Files.{LoadTold, HeadTold}
use Rattle.model.specs.declared.Factors.{Factors}

-- a head as it is lent: rows, columns, ceiling
abbrev pub lent_head : List ℕ → Head
lent_head head = record { rows = get_or head 0 0; columns = get_or head 1 0; ceiling = get_or head 2 0 }

-- steps as they are lent: 0 where the film has no field for them, and else any number; along; across
abbrev pub lent_steps : List ℕ → Option Factors
lent_steps steps = cond (eqb (get_or steps 0 0) 0) None (Some (record { along = get_or steps 1 0; across = get_or steps 2 0 }))

-- the film that runs and proposals are lent: a head, the weights at the start of the reader's buffer, and formed coefficients
abbrev pub lent_film : List ℕ → List ℕ → List ℕ → List ℕ → List ℕ → List ℤ → Film
lent_film head weights diagonals rights ups sources =
    film_of (lent_head head) (take ((lent_head head).rows * (lent_head head).columns) weights) diagonals rights ups sources

-- a call with one lent slice told its answer, and left just this in the slice
pub record Leaves {A : Type 0} (call : Result A) (Tells : A → Type 0) (exit : List ℕ) : Type 0 where
  pub told : Tells call.answer
  pub lent_is : exit ≡ call.lent

-- what `Loads` says that the reader answers
abbrev pub read_answer : List ℕ → List ℕ → List ℕ → Answer LoadAnswer
read_answer bytes weights thicknesses = answer_by (load_check bytes weights thicknesses) (load_answer (gauge_in bytes))

pub record ReadTold (bytes weights thicknesses head : List ℕ) (wedge : ℤ) (steps : List ℕ) (place number : ℕ) (weights' thicknesses' head' : List ℕ) (wedge' : ℤ) (steps' : List ℕ) (place' : ℕ)
    : Type 0 where
  pub told : LoadTold (read_answer bytes weights thicknesses) head wedge steps place number head' wedge' steps' place'
  pub loads : Loads bytes weights thicknesses (read_answer bytes weights thicknesses) weights' thicknesses'

-- the film that runs and proposals are lent of a coefficient film that was read: the numbers at the starts of the reader's buffers
abbrev pub lent_coefficients : List ℕ → List ℕ → List ℕ → List ℕ → List ℕ → List ℤ → Film
lent_coefficients head = used_film (lent_head head)

-- what `LoadsCoefficients` says that its reader answers
abbrev pub coefficients_answer : List ℕ → List ℕ → List ℕ → List ℕ → List ℕ → List ℤ → Answer Head
coefficients_answer bytes weights diagonals rights ups sources =
    answer_by (coefficient_load_check bytes weights diagonals rights ups sources) (film_head (film_in bytes))

pub record CoefficientsTold (bytes weights diagonals rights ups : List ℕ) (sources : List ℤ) (head : List ℕ) (place number : ℕ) (weights' diagonals' rights' ups' : List ℕ) (sources' : List ℤ) (head' : List ℕ) (place' : ℕ)
    : Type 0 where
  pub told : HeadTold (coefficients_answer bytes weights diagonals rights ups sources) head place number head' place'
  pub loads : LoadsCoefficients bytes weights diagonals rights ups sources (coefficients_answer bytes weights diagonals rights ups sources) weights' diagonals' rights' ups' sources'

-- what `Forms` says that the forming call answers
abbrev pub form_answer : Gauge → List ℕ → List ℕ → List ℕ → List ℤ → Answer (Unit {0})
form_answer g diagonals rights ups sources = answer_by (form_check g diagonals rights ups sources) tt

pub record FormTold (g : Gauge) (diagonals rights ups : List ℕ) (sources : List ℤ) (place number : ℕ) (diagonals' rights' ups' : List ℕ) (sources' : List ℤ) (place' : ℕ)
    : Type 0 where
  pub told : Told (refusal_in (form_answer g diagonals rights ups sources)) place number place'
  pub forms : Forms g diagonals rights ups sources (form_answer g diagonals rights ups sources) diagonals' rights' ups' sources'
