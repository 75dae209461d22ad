-- Document 01, demand 3: what is claimed of every list of run calls and line proposals on one accepted film file.
--
-- A step is a call with what it answered and the field that it left. A history is a list of steps from the zero field on, each of which
-- keeps the promise that stands in the `ensures` of the call (`Gives`), taking up the field that the last one left. Refused calls are steps
-- like any other. Verdicts, and what holds of each step of a list (`Each`), are the theory's (crate `monotone`, specs/History).
use Rattle.std.specs.Prelude.{◌≡◌, Bool, not, cond, ◌⊎◌, List, [], ◌∷◌, ℕ, ◌*◌, ◌≤◌, leb, eqb, length, replicate}
use Rattle.monotone.specs.Field.{total, ◌⊑◌}
use Rattle.monotone.specs.History.{Verdict, Each, exhaustions}
use Rattle.model.specs.Refusals.{Check, fail, ◌or_else◌, fail_if}
use Rattle.model.specs.Film.{Film, size_of, Feasible, Least}
use Rattle.model.specs.Checks.{order_check, line_check}
use Rattle.model.specs.Result.{Answer, answered, refused, refusal_in, Gives}
use Rattle.model.specs.Proposal.{ProposalAnswer, propose_call}
use Rattle.model.specs.Run.{RunAnswer, done, stopped, over, run_call}

-- a run: budget, ordering number, proposals on or off; a proposal: line number and numbers
pub data Call : Type 0 where
  run : ℕ → ℕ → Bool → Call
  propose : ℕ → List ℕ → Call

-- and what the call answered, and the field after it
pub data Step : Type 0 where
  ran : ℕ → ℕ → Bool → Answer RunAnswer → List ℕ → Step
  proposed : ℕ → List ℕ → Answer ProposalAnswer → List ℕ → Step

abbrev pub call_of : Step → Call
call_of (ran budget order on answer exit) = Call.run budget order on
call_of (proposed line proposal answer exit) = Call.propose line proposal

abbrev pub calls_of : List Step → List Call
calls_of [] = []
calls_of (s ∷ ss) = call_of s ∷ calls_of ss

abbrev pub exit_of : Step → List ℕ
exit_of (ran budget order on answer exit) = exit
exit_of (proposed line proposal answer exit) = exit

-- whether the call was refused, with which number and place
abbrev pub refusal_of : Step → Check
refusal_of (ran budget order on answer exit) = refusal_in answer
refusal_of (proposed line proposal answer exit) = refusal_in answer

-- what matters of a step on a film of n cells: a run's Done, Over, and Stopped though its budget covers every cell
abbrev pub verdict_of : ℕ → Step → Verdict
verdict_of n (ran budget order on (answered (done c)) exit) = Verdict.done
verdict_of n (ran budget order on (answered (stopped c)) exit) = cond (leb n budget) Verdict.exhausted Verdict.other
verdict_of n (ran budget order on (answered (over i c)) exit) = Verdict.over
verdict_of n (ran budget order on (refused number place) exit) = Verdict.other
verdict_of n (proposed line proposal answer exit) = Verdict.other

-- the step keeps its call's promise on the field that it took up
abbrev pub Kept : Film → List ℕ → Step → Type 0
Kept f entry (ran budget order on answer exit) = Gives (run_call f budget order on entry) answer exit
Kept f entry (proposed line proposal answer exit) = Gives (propose_call f line proposal entry) answer exit

abbrev pub zero_field : Film → List ℕ
zero_field f = replicate (size_of f) 0

pub record History (f : Film) (ss : List Step) : Type 0 where
  pub kept : Each exit_of (Kept f) (zero_field f) ss

-- What the rules give, from the film and the calls alone.
abbrev pub ruled : Film → Call → List ℕ → Step
ruled f (Call.run budget order on) p = ran budget order on (run_call f budget order on p).answer (run_call f budget order on p).lent
ruled f (Call.propose line proposal) p = proposed line proposal (propose_call f line proposal p).answer (propose_call f line proposal p).lent

abbrev pub ruled_all : Film → List Call → List ℕ → List Step
ruled_all f [] p = []
ruled_all f (c ∷ cs) p = ruled f c p ∷ ruled_all f cs (exit_of (ruled f c p))

-- what a call on an accepted film is refused for: a run by its ordering number alone, a proposal by its length or its line
abbrev pub call_check : Film → Call → Check
call_check f (Call.run budget order on) = order_check order
call_check f (Call.propose line proposal) = fail_if (not (eqb (length proposal) f.columns)) 10 0 or_else line_check f line

-- What holds of one history.
pub record Holds (f : Film) (ss : List Step) : Type 0 where
  -- each call's whole result or refusal, and the field that it leaves, are those that the rules give on the film and these calls alone
  pub results : ss ≡ ruled_all f (calls_of ss) (zero_field f)
  -- a call is refused by 11 alone if it is a run, by 10 or 13 alone if it is a proposal, and a refused call leaves the field alone
  pub refusals : Each exit_of (λ entry s. refusal_of s ≡ call_check f (call_of s)) (zero_field f) ss
  pub unchanged : Each exit_of (λ entry s. (number place : ℕ) → refusal_of s ≡ fail number place → exit_of s ≡ entry) (zero_field f) ss
  -- after each call the field is in no cell lower than before it, nor higher than any feasible field
  pub rises : Each exit_of (λ entry s. entry ⊑ exit_of s) (zero_field f) ss
  pub under : Each exit_of (λ entry s. (z : List ℕ) → Feasible f z → exit_of s ⊑ z) (zero_field f) ss
  -- a run answered Done leaves a feasible field, and every other feasible field has at least as much in each cell
  pub done_least : Each exit_of (λ entry s. verdict_of (size_of f) s ≡ Verdict.done → Feasible f (exit_of s) × ((z : List ℕ) → Feasible f z → exit_of s ⊑ z)) (zero_field f) ss
  -- Over only if nothing is feasible
  pub over_none : Each exit_of (λ entry s. verdict_of (size_of f) s ≡ Verdict.over → (z : List ℕ) → Feasible f z → ⊥) (zero_field f) ss
  -- of the runs with a budget of at least N, those answered Stopped number at most the total of the least field
  pub stopped_least : (q : List ℕ) → Least f q → exhaustions (verdict_of (size_of f)) ss ≤ total q
  -- or N × ceiling if nothing is feasible
  pub stopped_none : ((z : List ℕ) → Feasible f z → ⊥) → exhaustions (verdict_of (size_of f)) ss ≤ size_of f * f.ceiling

-- What is claimed of a film, over every history and every two of them.
pub record Claimed (f : Film) : Type 0 where
  pub holds : (ss : List Step) → History f ss → Holds f ss
  -- any two Done runs, in one list or in two, leave the same field
  pub same : (ss ts : List Step) → History f ss → History f ts
      → Each exit_of (λ _ s. Each exit_of (λ _ t. verdict_of (size_of f) s ≡ Verdict.done → verdict_of (size_of f) t ≡ Verdict.done → exit_of s ≡ exit_of t) (zero_field f) ts) (zero_field f) ss
  -- no list is left out: every list of calls has a history
  pub every_list : (cs : List Call) → (ss : List Step) × History f ss × (calls_of ss ≡ cs)
  -- where any field is feasible there is a least field, and it is feasible; so there is a least field, or no field is feasible
  pub least_exists : (z : List ℕ) → Feasible f z → (q : List ℕ) × Least f q
  pub least_feasible : (q : List ℕ) → Least f q → Feasible f q
  pub least_or_none : ((q : List ℕ) × Least f q) ⊎ ((z : List ℕ) → Feasible f z → ⊥)
