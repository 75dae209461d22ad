-- Demand 3 of the calls for C, from what stands in their `ensures`: a film that was read and formed through them is a session's (`session_told`), and
-- each `film_run` and `film_propose` on it is a step (`run_step`, `propose_step`). So all that is claimed of lists of steps holds of them.
use Rattle.std.specs.Prelude.{Option, Some, None}
use mathlib.Core.Path.{◌≡◌, refl, sym, ap, ◌∙◌, subst}
use mathlib.Core.Bool.{Bool}
use mathlib.Core.List.{List, [], ◌∷◌}
use Prim.Native.Nat.{ℕ, ◌*◌}
use native.Mathlib.Omega.{arith}
use lib.IntN.{ℤ}
use lib.ListN.{length}
use Rattle.model.specs.Refusals.{Check, pass, fail, Numbered}
use Rattle.model.specs.Result.{Answer, answered, answer_by, refusal_in}
use Rattle.model.specs.Film.{Film}
use Rattle.model.specs.File.{gauge_in, Bytes}
use Rattle.model.specs.FileCalls.{film, load_answer, load_check, Loads, used}
use Rattle.model.specs.Proposal.{ProposalAnswer, propose, line_start, row_check, propose_call}
use Rattle.model.specs.Run.{RunAnswer, run, run_check, run_call}
use Rattle.model.specs.Demand.{ran, proposed, Kept, Claimed}
use Rattle.model.specs.CoefficientFile.{film_in}
use Rattle.model.specs.CoefficientCalls.{film_head, coefficient_load_check, LoadsCoefficients}
use Rattle.model.specs.Session.{Session, from_gauge, from_coefficients}
use Rattle.model.proofs.Numbered.{run_numbered, row_numbered, load_numbered, coefficient_load_numbered}
use Rattle.model.proofs.Session.{demand_3_calls}
use Rattle.told.specs.Refused.{number_in}
use Rattle.tell.specs.Numbers.{run_numbers, RunTold, propose_numbers, ProposeTold}
use Rattle.tell_files.specs.Files.{steps_numbers, LoadTold, HeadTold}
use Rattle.archive.specs.Lent.{lent_head, lent_steps, lent_film, Leaves, read_answer, ReadTold, lent_coefficients, coefficients_answer, CoefficientsTold, FormTold}
use Rattle.model.specs.declared.Factors.{Factors}

-- a refusal's number is not 0, so that 0 is returned just where a call answered
answered_0 : {A : Type 0} (tests : Check) (a : A) → Numbered tests → 0 ≡ number_in (refusal_in (answer_by tests a)) → answer_by tests a ≡ answered a
answered_0 pass a n e = refl
answered_0 (fail number place) a n e = absurd (omega (arith, n.some number place refl))

-- ---- steps: whatever was told, there is an answer that it was told of, and the step with it keeps its call's promise

module _ (f : Film) (entry : List ℕ) {exit : List ℕ} where
  pub run_step : (budget order : ℕ) (on : Bool) {Tells : Answer RunAnswer → Type 0} → Leaves (run_call f budget order on entry) Tells exit
      → (a : Answer RunAnswer) × Tells a × Kept f entry (ran budget order on a exit)
  run_step budget order on L = ((run_call f budget order on entry).answer, L.told, record { answer_is = refl; lent_is = L.lent_is })

  pub propose_step : (line : ℕ) (proposal : List ℕ) {Tells : Answer ProposalAnswer → Type 0} → Leaves (propose_call f line proposal entry) Tells exit
      → (a : Answer ProposalAnswer) × Tells a × Kept f entry (proposed line proposal a exit)
  propose_step line proposal L = ((propose_call f line proposal entry).answer, L.told, record { answer_is = refl; lent_is = L.lent_is })

  -- where 0 was returned the call answered, and its result is written as numbers
  pub run_returned_0 : (budget order : ℕ) (on : Bool) {result result' : List ℕ} {cell cell' place place' : ℕ}
      → Leaves (run_call f budget order on entry) (λ a. RunTold a result cell place 0 result' cell' place') exit
      → (a : RunAnswer) × (result' ≡ run_numbers (answered a) result) × Kept f entry (ran budget order on (answered a) exit)
  run_returned_0 budget order on {result} L =
      let e = answered_0 (run_check f entry order) (run f budget order on entry).answer (run_numbered f entry order) L.told.told.number_is in
      ((run f budget order on entry).answer, L.told.result_is ∙ ap (λ a. run_numbers a result) e, record { answer_is = sym e; lent_is = L.lent_is })

  pub propose_returned_0 : (line : ℕ) (proposal : List ℕ) {result result' : List ℕ} {place place' : ℕ}
      → Leaves (propose_call f line proposal entry) (λ a. ProposeTold a result place 0 result' place') exit
      → (a : ProposalAnswer) × (result' ≡ propose_numbers (answered a) result) × Kept f entry (proposed line proposal (answered a) exit)
  propose_returned_0 line proposal {result} L =
      let made = (propose f (line_start f line) proposal entry).answer in
      let e = answered_0 (row_check f entry proposal line) made (row_numbered f entry proposal line) L.told.told.number_is in
      (made, L.told.result_is ∙ ap (λ a. propose_numbers a result) e, record { answer_is = sym e; lent_is = L.lent_is })

-- steps that were told are those that are lent from there
steps_lent : (s : Option Factors) (old : List ℕ) → lent_steps (steps_numbers s old) ≡ s
steps_lent None [] = refl
steps_lent None (x ∷ old) = refl
steps_lent (Some f) old = refl

-- ---- a file for which `film_read` returned 0, and its coefficients, formed into slices of N by `film_form`

module _ {bytes weights thicknesses head steps weights' thicknesses' head' steps' : List ℕ} {wedge wedge' : ℤ} {place place' : ℕ}
    (R : ReadTold bytes weights thicknesses head wedge steps place 0 weights' thicknesses' head' wedge' steps' place') where
  read_answered : read_answer bytes weights thicknesses ≡ answered (load_answer (gauge_in bytes))
  read_answered =
      answered_0 (load_check bytes weights thicknesses) (load_answer (gauge_in bytes)) (load_numbered bytes weights thicknesses) R.told.told.number_is

  -- what it answered is what it wrote into head, wedge and steps
  read_numbers : LoadTold (answered (load_answer (gauge_in bytes))) head wedge steps place 0 head' wedge' steps' place'
      → answered (load_answer (gauge_in bytes)) ≡ answered (film (lent_head head') wedge' (lent_steps steps'))
  read_numbers T =
      let grid : lent_steps steps' ≡ (gauge_in bytes).steps = ap lent_steps T.steps_are ∙ steps_lent (gauge_in bytes).steps steps in
      sym (λ k. answered (film (lent_head (T.head_is k)) (T.wedge_is k) (grid k)))

  read_loads : Loads bytes weights thicknesses (answered (film (lent_head head') wedge' (lent_steps steps'))) weights' thicknesses'
  read_loads =
      let e = read_answered ∙ read_numbers (subst (λ a. LoadTold a head wedge steps place 0 head' wedge' steps' place') read_answered R.told) in
      subst (λ a. Loads bytes weights thicknesses a weights' thicknesses') e R.loads

  module _ {diagonals rights ups diagonals' rights' ups' : List ℕ} {sources sources' : List ℤ} {number at at' : ℕ}
      (diagonals_len : length diagonals ≡ (lent_head head').rows * (lent_head head').columns) (rights_len : length rights ≡ (lent_head head').rows * (lent_head head').columns)
      (ups_len : length ups ≡ (lent_head head').rows * (lent_head head').columns) (sources_len : length sources ≡ (lent_head head').rows * (lent_head head').columns)
      (F : FormTold (used (lent_head head') wedge' (lent_steps steps') weights' thicknesses') diagonals rights ups sources at number diagonals' rights' ups' sources' at') where
    pub session_told : Session bytes (lent_film head' weights' diagonals' rights' ups' sources')
    session_told =
        from_gauge (record {
          head = lent_head head';
          wedge = wedge';
          steps = lent_steps steps';
          weights = weights;
          thicknesses = thicknesses;
          weights' = weights';
          thicknesses' = thicknesses';
          loads = read_loads;
          answer = _;
          diagonals = diagonals;
          rights = rights;
          ups = ups;
          sources = sources;
          diagonals_len = diagonals_len;
          rights_len = rights_len;
          ups_len = ups_len;
          sources_len = sources_len;
          diagonals' = diagonals';
          rights' = rights';
          ups' = ups';
          sources' = sources';
          forms = F.forms;
          lent = refl;
        })

    -- so demand 3 holds of every list of them
    pub demand_3_c : Bytes bytes → Claimed (lent_film head' weights' diagonals' rights' ups' sources')
    demand_3_c B = demand_3_calls bytes B session_told

-- ---- a coefficient film's file for which `film_read_coefficients` returned 0

module _ {bytes weights diagonals rights ups head weights' diagonals' rights' ups' head' : List ℕ} {sources sources' : List ℤ} {place place' : ℕ}
    (R : CoefficientsTold bytes weights diagonals rights ups sources head place 0 weights' diagonals' rights' ups' sources' head' place') where
  coefficients_answered : coefficients_answer bytes weights diagonals rights ups sources ≡ answered (film_head (film_in bytes))
  coefficients_answered =
      answered_0 (coefficient_load_check bytes weights diagonals rights ups sources) (film_head (film_in bytes))
      (coefficient_load_numbered bytes weights diagonals rights ups sources)
      R.told.told.number_is

  -- what it answered is what it wrote into head
  coefficients_head : HeadTold (answered (film_head (film_in bytes))) head place 0 head' place' → answered (film_head (film_in bytes)) ≡ answered (lent_head head')
  coefficients_head T = sym (λ k. answered (lent_head (T.head_is k)))

  pub coefficients_session : Session bytes (lent_coefficients head' weights' diagonals' rights' ups' sources')
  coefficients_session =
      let e = coefficients_answered ∙ coefficients_head (subst (λ a. HeadTold a head place 0 head' place') coefficients_answered R.told) in
      from_coefficients (record {
        head = lent_head head';
        weights = weights;
        diagonals = diagonals;
        rights = rights;
        ups = ups;
        sources = sources;
        weights' = weights';
        diagonals' = diagonals';
        rights' = rights';
        ups' = ups';
        sources' = sources';
        loads = subst (λ a. LoadsCoefficients bytes weights diagonals rights ups sources a weights' diagonals' rights' ups' sources') e R.loads;
        lent = refl;
      })

  -- so demand 3 holds of every list of runs and proposals on it
  pub demand_3_c_coefficients : Bytes bytes → Claimed (lent_coefficients head' weights' diagonals' rights' ups' sources')
  demand_3_c_coefficients B = demand_3_calls bytes B coefficients_session
