-- Document 01, demand 3, of the calls themselves: a film as it is lent to runs and proposals, after its file was read into lent buffers and, if it
-- is a gauged film's, its coefficients were formed into lent slices. All that is said of these calls is what stands in their `ensures`.
use Rattle.std.specs.Prelude.{◌≡◌, List, ℕ, ◌*◌, ℤ, length, take, Option}
use Rattle.model.specs.Film.{Film, film_of}
use Rattle.model.specs.Result.{Answer, answered}
use Rattle.model.specs.FileCalls.{used, film, Loads, Forms}
use Rattle.model.specs.CoefficientCalls.{used_film, LoadsCoefficients}
use Rattle.model.specs.declared.Head.{Head}
use Rattle.model.specs.declared.Factors.{Factors}

-- a gauged film, by `read` and `form`
pub record GaugedSession (bytes : List ℕ) (f : Film) : Type 0 where
  -- the file was read: what the reader answered, and its buffers before and after
  pub head : Head
  pub wedge : ℤ
  pub steps : Option Factors
  pub weights : List ℕ
  pub thicknesses : List ℕ
  pub weights' : List ℕ
  pub thicknesses' : List ℕ
  pub loads : Loads bytes weights thicknesses (answered (film head wedge steps)) weights' thicknesses'
  -- coefficients were formed from the numbers at the buffers' starts: what was answered, and four slices of N before and after
  pub answer : Answer (Unit {0})
  pub diagonals : List ℕ
  pub rights : List ℕ
  pub ups : List ℕ
  pub sources : List ℤ
  pub diagonals_len : length diagonals ≡ head.rows * head.columns
  pub rights_len : length rights ≡ head.rows * head.columns
  pub ups_len : length ups ≡ head.rows * head.columns
  pub sources_len : length sources ≡ head.rows * head.columns
  pub diagonals' : List ℕ
  pub rights' : List ℕ
  pub ups' : List ℕ
  pub sources' : List ℤ
  pub forms : Forms (used head wedge steps weights' thicknesses') diagonals rights ups sources answer diagonals' rights' ups' sources'
  -- these slices, with the weights, are lent to every run and proposal
  pub lent : f ≡ film_of head (take (head.rows * head.columns) weights') diagonals' rights' ups' sources'

-- a coefficient film, by `coefficient_file::read`: what it answered, and its buffers before and after, whose first N places are lent to every run
-- and proposal
pub record CoefficientSession (bytes : List ℕ) (f : Film) : Type 0 where
  pub head : Head
  pub weights : List ℕ
  pub diagonals : List ℕ
  pub rights : List ℕ
  pub ups : List ℕ
  pub sources : List ℤ
  pub weights' : List ℕ
  pub diagonals' : List ℕ
  pub rights' : List ℕ
  pub ups' : List ℕ
  pub sources' : List ℤ
  pub loads : LoadsCoefficients bytes weights diagonals rights ups sources (answered head) weights' diagonals' rights' ups' sources'
  pub lent : f ≡ used_film head weights' diagonals' rights' ups' sources'

-- lists of runs may begin from either file
pub data Session (bytes : List ℕ) (f : Film) : Type 0 where
  from_gauge : GaugedSession bytes f → Session bytes f
  from_coefficients : CoefficientSession bytes f → Session bytes f
