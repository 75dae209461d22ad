-- The answers of the calls on coefficients, as numbers: what each lent number and array holds at exit, from what it held at entry. A refusal
-- leaves all but the place as it was.
use Rattle.std.specs.Prelude.{◌≡◌, List, [], ◌∷◌, ℕ, ℤ}
use Rattle.model.specs.Result.{Answer, answered, refused, refusal_in}
use Rattle.model.specs.Relaxation.{RelaxAnswer, quiet, raised, over}
use Rattle.model.specs.Proposal.{ProposalAnswer, accepted, rejected}
use Rattle.model.specs.Run.{RunAnswer, done, stopped}
use Rattle.model.specs.Run as runs
use Rattle.model.specs.declared.Counts.{Counts}
use Rattle.told.specs.Refused.{Told, value_in}

pub record SlackTold (answer : Answer ℤ) (slack : ℤ) (place number : ℕ) (slack' : ℤ) (place' : ℕ) : Type 0 where
  pub told : Told (refusal_in answer) place number place'
  pub slack_is : slack' ≡ value_in answer slack

pub record MarginTold (answer : Answer ℕ) (margin place number margin' place' : ℕ) : Type 0 where
  pub told : Told (refusal_in answer) place number place'
  pub margin_is : margin' ≡ value_in answer margin

-- 0 quiet, 1 raised, 2 over; and the pressure that the cell was raised to. The cell of Over is the call's own.
abbrev pub relax_numbers : Answer RelaxAnswer → List ℕ → List ℕ
relax_numbers (answered quiet) old = 0 ∷ 0 ∷ []
relax_numbers (answered (raised pressure)) old = 1 ∷ pressure ∷ []
relax_numbers (answered (over cell)) old = 2 ∷ 0 ∷ []
relax_numbers (refused number place) old = old

pub record RelaxTold (answer : Answer RelaxAnswer) (result : List ℕ) (place number : ℕ) (result' : List ℕ) (place' : ℕ) : Type 0 where
  pub told : Told (refusal_in answer) place number place'
  pub result_is : result' ≡ relax_numbers answer result

-- 1 accepted, 0 rejected; and the number of cells raised
abbrev pub propose_numbers : Answer ProposalAnswer → List ℕ → List ℕ
propose_numbers (answered (accepted cells)) old = 1 ∷ cells ∷ []
propose_numbers (answered rejected) old = 0 ∷ 0 ∷ []
propose_numbers (refused number place) old = old

pub record ProposeTold (answer : Answer ProposalAnswer) (result : List ℕ) (place number : ℕ) (result' : List ℕ) (place' : ℕ) : Type 0 where
  pub told : Told (refusal_in answer) place number place'
  pub result_is : result' ≡ propose_numbers answer result

abbrev pub counted : ℕ → Counts → List ℕ
counted end c = end ∷ c.visits ∷ c.raises ∷ c.accepted ∷ []

-- 0 done, 1 stopped, 2 over; visits, raises, and cells raised by proposals
abbrev pub run_numbers : Answer RunAnswer → List ℕ → List ℕ
run_numbers (answered (done c)) old = counted 0 c
run_numbers (answered (stopped c)) old = counted 1 c
run_numbers (answered (runs.over cell c)) old = counted 2 c
run_numbers (refused number place) old = old

abbrev pub over_cell : Answer RunAnswer → ℕ → ℕ
over_cell (answered (done c)) old = old
over_cell (answered (stopped c)) old = old
over_cell (answered (runs.over cell c)) old = cell
over_cell (refused number place) old = old

pub record RunTold (answer : Answer RunAnswer) (result : List ℕ) (cell place number : ℕ) (result' : List ℕ) (cell' place' : ℕ) : Type 0 where
  pub told : Told (refusal_in answer) place number place'
  pub result_is : result' ≡ run_numbers answer result
  pub cell_is : cell' ≡ over_cell answer cell
