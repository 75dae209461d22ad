-- Demand 1: a call that is refused changes nothing of what it was lent, from the promise in its `ensures` and its answer alone.
use mathlib.Core.Path.{◌≡◌, refl, ◌∙◌}
use mathlib.Core.Bool.{Bool}
use mathlib.Core.List.{List}
use Prim.Native.Nat.{ℕ}
use lib.IntN.{ℤ}
use Rattle.model.specs.Refusals.{Check, pass, fail}
use Rattle.model.specs.Gauge.{Gauge}
use Rattle.model.specs.Film.{Film}
use Rattle.model.specs.Coefficients.{formed}
use Rattle.model.specs.Result.{refused, answer_by, kept, Result, written, call_by, Gives}
use Rattle.model.specs.FileCalls.{form_check, Forms, save_check, save_call, load_check, Loads}
use Rattle.model.specs.CoefficientFile.{coefficient_file_of}
use Rattle.model.specs.CoefficientCalls.{coefficient_load_check, LoadsCoefficients, coefficient_save_check, coefficient_save_call, convert_check, convert_call}
use Rattle.model.specs.Relaxation.{relax, point_check, relax_call}
use Rattle.model.specs.Proposal.{line_start, propose, row_check, propose_call}
use Rattle.model.specs.Estimate.{estimate, estimate_call}
use Rattle.model.specs.Run.{run, run_check, run_call}
use Rattle.model.specs.File.{file_of}
use Rattle.model.specs.ReportCall.{buffer_check, report_call}

-- Of any call and any slice that it was lent to write: ..
pub refused_keeps : {A B : Type 0} (tests : Check) (a : A) {number place : ℕ} → refused number place ≡ answer_by tests a → (new old : List B)
    → kept tests new old ≡ old
refused_keeps pass a e new old = cc
refused_keeps (fail n q) a e new old = refl

-- .. a call with one such slice, ..
module _ {A : Type 0} (tests : Check) (r : Result A) (lent : List ℕ) {number place : ℕ} {exit : List ℕ} where
  pub call_refused : Gives (call_by tests r lent) (refused number place) exit → exit ≡ lent
  call_refused G = G.lent_is ∙ refused_keeps tests r.answer G.answer_is r.lent lent

-- .. of which each is a line, ..
module _ {number place : ℕ} {exit : List ℕ} where
  pub relax_refused : (f : Film) (p : List ℕ) (i : ℕ) → Gives (relax_call f p i) (refused number place) exit → exit ≡ p
  relax_refused f p i = call_refused (point_check f p i) (relax f p i) p

  pub propose_refused : (f : Film) (line : ℕ) (proposal p : List ℕ) → Gives (propose_call f line proposal p) (refused number place) exit → exit ≡ p
  propose_refused f line proposal p =
      call_refused (row_check f p proposal line) (propose f (line_start f line) proposal p) p

  pub estimate_refused : (f : Film) (line : ℕ) (p out : List ℕ) → Gives (estimate_call f line p out) (refused number place) exit → exit ≡ out
  estimate_refused f line p out =
      call_refused (row_check f p out line) (written (estimate f p (line_start f line))) out

  pub run_refused : (f : Film) (budget order : ℕ) (on : Bool) (p : List ℕ) → Gives (run_call f budget order on p) (refused number place) exit → exit ≡ p
  run_refused f budget order on p = call_refused (run_check f p order) (run f budget order on p) p

  pub save_refused : (g : Gauge) (out : List ℕ) → Gives (save_call g out) (refused number place) exit → exit ≡ out
  save_refused g out = call_refused (save_check g out) (written (file_of g)) out

  pub coefficient_save_refused : (f : Film) (out : List ℕ) → Gives (coefficient_save_call f out) (refused number place) exit → exit ≡ out
  coefficient_save_refused f out = call_refused (coefficient_save_check f out) (written (coefficient_file_of f)) out

  pub convert_refused : (g : Gauge) (out : List ℕ) → Gives (convert_call g out) (refused number place) exit → exit ≡ out
  convert_refused g out = call_refused (convert_check g out) (written (coefficient_file_of (formed g))) out

  pub report_refused : (bytes out : List ℕ) → Gives (report_call bytes out) (refused number place) exit → exit ≡ out
  report_refused bytes out = call_refused (buffer_check out) _ out

-- .. and the calls with more: forming coefficients, and reading a film file of either kind.
module _ {number place : ℕ} where
  pub form_refused : (g : Gauge) (diagonals rights ups : List ℕ) (sources : List ℤ) {diagonals' rights' ups' : List ℕ} {sources' : List ℤ}
      → Forms g diagonals rights ups sources (refused number place) diagonals' rights' ups' sources'
      → (diagonals' ≡ diagonals) × (rights' ≡ rights) × (ups' ≡ ups) × (sources' ≡ sources)
  form_refused g diagonals rights ups sources F =
      let tests = form_check g diagonals rights ups sources in (
        F.diagonals_are ∙ refused_keeps tests tt F.answer_is _ diagonals,
        F.rights_are ∙ refused_keeps tests tt F.answer_is _ rights,
        F.ups_are ∙ refused_keeps tests tt F.answer_is _ ups,
        F.sources_are ∙ refused_keeps tests tt F.answer_is _ sources,
      )

  pub load_refused : (bytes weights thicknesses : List ℕ) {weights' thicknesses' : List ℕ}
      → Loads bytes weights thicknesses (refused number place) weights' thicknesses' → (weights' ≡ weights) × (thicknesses' ≡ thicknesses)
  load_refused bytes weights thicknesses L =
      let tests = load_check bytes weights thicknesses in
      (L.weights_are ∙ refused_keeps tests _ L.answer_is _ weights, L.thicknesses_are ∙ refused_keeps tests _ L.answer_is _ thicknesses)

  pub coefficient_load_refused : (bytes weights diagonals rights ups : List ℕ) (sources : List ℤ) {weights' diagonals' rights' ups' : List ℕ} {sources' : List ℤ}
      → LoadsCoefficients bytes weights diagonals rights ups sources (refused number place) weights' diagonals' rights' ups' sources'
      → (weights' ≡ weights) × (diagonals' ≡ diagonals) × (rights' ≡ rights) × (ups' ≡ ups) × (sources' ≡ sources)
  coefficient_load_refused bytes weights diagonals rights ups sources L =
      let tests = coefficient_load_check bytes weights diagonals rights ups sources in (
        L.weights_are ∙ refused_keeps tests _ L.answer_is _ weights,
        L.diagonals_are ∙ refused_keeps tests _ L.answer_is _ diagonals,
        L.rights_are ∙ refused_keeps tests _ L.answer_is _ rights,
        L.ups_are ∙ refused_keeps tests _ L.answer_is _ ups,
        L.sources_are ∙ refused_keeps tests _ L.answer_is _ sources,
      )
