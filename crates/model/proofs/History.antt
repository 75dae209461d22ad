-- Calls as document 01 lists them, from the promise in their `ensures`: each is good by itself, refused or not; Done holds the least field at
-- or above any start; and a bound on relaxations.
use mathlib.Core.Path.{◌≡◌, refl, sym}
use mathlib.Core.Bool.{Bool, true}
use mathlib.Core.List.{List}
use Prim.Native.Nat.{ℕ, ◌+◌, ◌-◌, ◌*◌, ◌≤◌}
use native.Mathlib.Omega.{arith}
use borrow.Author.Tests.{eqb-true}
use lib.Dec.{eqb}
use lib.ListN.{length}
use Rattle.monotone.specs.Field.{total}
use Rattle.monotone.specs.Rule.{Bounded}
use Rattle.monotone.specs.History.{Verdict, Good}
use Rattle.monotone.proofs.History.{good_same, good_proposal}
use Rattle.model.specs.Refusals.{Check, pass, fail}
use Rattle.model.specs.Film.{Film, size_of, LeastFrom, rule}
use Rattle.model.specs.Checks.{order_check, line_check}
use Rattle.model.specs.Accepted.{Accepted}
use Rattle.model.specs.Result.{answered, answer_by, kept, Result, call_by, Gives}
use Rattle.model.specs.Proposal.{line_start, propose, row_check}
use Rattle.model.specs.Run.{RunAnswer, done, stopped, over, counted_in, run, run_check, run_call}
use Rattle.model.specs.Demand.{Step, ran, proposed, exit_of, verdict_of, Kept}
use Rattle.model.specs.declared.Counts.{Counts}
use Rattle.model.proofs.Slacks.{least_from}
use Rattle.model.proofs.Checks.{FieldPassed, field_passes, accepted_positive}
use Rattle.model.proofs.Proposal.{propose_rises}
use Rattle.model.proofs.Run.{run_verdict, run_good, run_visits, run_done_least}

-- a call that answered has passed its tests, and gave what it then gives
pub record Answered {A : Type 0} (tests : Check) (r : Result A) (a : A) (exit : List ℕ) : Type 0 where
  pub passes : tests ≡ pass
  pub answer_is : a ≡ r.answer
  pub lent_is : exit ≡ r.lent

pub call_answered : {A : Type 0} (tests : Check) (r : Result A) (lent : List ℕ) {a : A} {exit : List ℕ}
    → Gives (call_by tests r lent) (answered a) exit → Answered tests r a exit
call_answered pass r lent G = record { passes = refl; answer_is = cc; lent_is = G.lent_is }
call_answered (fail number place) r lent G = let z : ◌≡◌ {A = ℕ} 0 1 = cc in absurd (omega arith)

-- A run call on any film and field that answered.
module _ (f : Film) (budget order : ℕ) (on : Bool) (p : List ℕ) {exit : List ℕ} where
  answered_run : {a : RunAnswer} → Gives (run_call f budget order on p) (answered a) exit
      → Answered (run_check f p order) (run f budget order on p) a exit
  answered_run G = call_answered _ (run f budget order on p) p G

  started : {a : RunAnswer} → Gives (run_call f budget order on p) (answered a) exit → FieldPassed f p true (order_check order) pass
  started G = field_passes f p true (order_check order) pass (answered_run G).passes

  -- from any accepted start, Done holds the least field at or above the start that meets the film
  pub run_call_done_least : (c : Counts) → Gives (run_call f budget order on p) (answered (done c)) exit → LeastFrom f p exit
  run_call_done_least c G =
      let P = started G in
      rw (answered_run G).lent_is
      (least_from f (accepted_positive P.film) P.bounded.len (run_done_least f P.film budget order on p P.bounded c (sym (answered_run G).answer_is)))

  -- visits are at most N × (1 + total after − total before)
  pub run_call_visits : {a : RunAnswer} → Gives (run_call f budget order on p) (answered a) exit
      → (counted_in a).visits ≤ size_of f * (1 + (total exit - total p))
  run_call_visits G =
      let P = started G in
      rw ((answered_run G).answer_is, (answered_run G).lent_is) (run_visits f P.film budget order on p P.bounded)

-- a run's verdict as a step of a list
step_verdict : (n budget order : ℕ) (on : Bool) (a : RunAnswer) (exit : List ℕ) → verdict_of n (ran budget order on (answered a) exit) ≡ run_verdict n budget a
step_verdict n budget order on (done c) exit = refl
step_verdict n budget order on (stopped c) exit = refl
step_verdict n budget order on (over i c) exit = refl

-- on an accepted film a step that keeps its call's promise is good, refused or not
module _ (f : Film) (A : Accepted f) where
  pub step_good : (entry : List ℕ) (s : Step) → Kept f entry s → Bounded (rule f) entry → Good (rule f) entry (exit_of s) (verdict_of (size_of f) s)
  step_good p (ran budget order on answer exit) k B =
      rw (k.answer_is, k.lent_is) (go (run_check f p order))
    where
      go : (x : Check) → let r = run f budget order on p in
          Good (rule f) p (kept x r.lent p) (verdict_of (size_of f) (ran budget order on (answer_by x r.answer) (kept x r.lent p)))
      go pass = rw (step_verdict (size_of f) budget order on (run f budget order on p).answer (run f budget order on p).lent) (run_good f A budget order on p B)
      go (fail number place) = good_same B
  step_good p (proposed line proposal answer exit) k B =
      rw k.lent_is (go (row_check f p proposal line) refl)
    where
      go : (x : Check) → row_check f p proposal line ≡ x
          → Good (rule f) p (kept x (propose f (line_start f line) proposal p).lent p) Verdict.other
      go pass h =
          let P = field_passes f p (eqb (length proposal) f.columns) pass (line_check f line) h in
          good_proposal (propose_rises f (line_start f line) proposal p A B (eqb-true _ _ P.fits_is))
      go (fail number place) h = good_same B
