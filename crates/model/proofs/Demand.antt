-- Demand 3, of every film that passes its tests (`film_claimed`): the theory's promise on lists of steps (`history`), in document 01's terms.
use mathlib.Core.Path.{◌≡◌, refl, ap, ap₂, ◌∙◌}
use mathlib.Core.Bool.{true}
use mathlib.Core.Logic.{inl, inr, ⊎_elim}
use mathlib.Core.List.{List, [], ◌∷◌}
use Prim.Native.Nat.{ℕ}
use native.Mathlib.Omega.{arith}
use lib.Dec.{eqb}
use lib.ListN.{length}
use Rattle.monotone.specs.Rule as theory
use Rattle.monotone.specs.Linear.{Positive}
use Rattle.monotone.specs.History.{Each, Promise}
use Rattle.monotone.proofs.History.{zeros_start, least_or_none, each_map, each_both, history, history_same}
use Rattle.model.specs.Refusals.{Check, pass, fail, ◌or_else◌}
use Rattle.model.specs.Film.{Film, size_of, system_of, rule}
use Rattle.model.specs.Checks.{order_check, line_check, film_check}
use Rattle.model.specs.Accepted.{Accepted}
use Rattle.model.specs.Result.{Answer, answered, refused, answer_by, refusal_in}
use Rattle.model.specs.Proposal.{ProposalAnswer, propose, line_start}
use Rattle.model.specs.Run.{RunAnswer, run, run_check}
use Rattle.model.specs.File.{Bytes}
use Rattle.model.specs.EitherFile.{read_either}
use Rattle.model.specs.Demand.{Call, Step, ran, proposed, call_of, calls_of, exit_of, refusal_of, verdict_of, Kept, zero_field, History, ruled, ruled_all, call_check, Holds, Claimed}
use Rattle.model.proofs.Slacks.{rule_monotone, feasible_to, feasible_from, least_is, least_exists, least_feasible}
use Rattle.model.proofs.Checks.{check_passes, accepted_positive}
use Rattle.model.proofs.Refused.{run_refused, propose_refused}
use Rattle.model.proofs.History.{step_good}
use Rattle.model.proofs.Forming.{field_accepted}
use Rattle.model.proofs.EitherFile.{file_film}

-- ---- the steps are those that the rules give

kept_ruled : (f : Film) (entry : List ℕ) (s : Step) → Kept f entry s → s ≡ ruled f (call_of s) entry
kept_ruled f entry (ran budget order on answer exit) k = ap₂ (λ (a : Answer RunAnswer) (q : List ℕ). ran budget order on a q) k.answer_is k.lent_is
kept_ruled f entry (proposed line proposal answer exit) k = ap₂ (λ (a : Answer ProposalAnswer) (q : List ℕ). proposed line proposal a q) k.answer_is k.lent_is

kept_results : (f : Film) (entry : List ℕ) (ss : List Step) → Each exit_of (Kept f) entry ss → ss ≡ ruled_all f (calls_of ss) entry
kept_results f entry [] all = refl
kept_results f entry (s ∷ ss) all =
    let e = kept_ruled f entry s all.0 in
    ap₂ (λ (t : Step) (ts : List Step). t ∷ ts) e (kept_results f (exit_of s) ss all.1 ∙ ap (λ (t : Step). ruled_all f (calls_of ss) (exit_of t)) e)

-- and those that the rules give are steps: every list of calls has a history
ruled_kept : (f : Film) (c : Call) (p : List ℕ) → Kept f p (ruled f c p) × (call_of (ruled f c p) ≡ c)
ruled_kept f (Call.run budget order on) p = (record { answer_is = refl; lent_is = refl }, refl)
ruled_kept f (Call.propose line proposal) p = (record { answer_is = refl; lent_is = refl }, refl)

all_kept : (f : Film) (cs : List Call) (p : List ℕ) → Each exit_of (Kept f) p (ruled_all f cs p) × (calls_of (ruled_all f cs p) ≡ cs)
all_kept f [] p = (tt, refl)
all_kept f (c ∷ cs) p =
    let s = ruled_kept f c p in
    let ss = all_kept f cs (exit_of (ruled f c p)) in
    ((s.0, ss.0), ap₂ (λ (x : Call) (xs : List Call). x ∷ xs) s.1 ss.1)

-- ---- refused steps

found_by : {A : Type 0} (tests : Check) (a : A) → refusal_in (answer_by tests a) ≡ tests
found_by pass a = refl
found_by (fail number place) a = refl

refused_is : {A : Type 0} (x : Answer A) {number place : ℕ} → refusal_in x ≡ fail number place → x ≡ refused number place
refused_is (answered a) e = let z : ◌≡◌ {A = ℕ} 0 1 = cc in absurd (omega arith)
refused_is (refused n q) e = cc

step_unchanged : (f : Film) (entry : List ℕ) (s : Step) → Kept f entry s → (number place : ℕ) → refusal_of s ≡ fail number place → exit_of s ≡ entry
step_unchanged f p (ran budget order on answer exit) k number place e = run_refused f budget order on p (rw (refused_is answer e) at k)
step_unchanged f p (proposed line proposal answer exit) k number place e = propose_refused f line proposal p (rw (refused_is answer e) at k)

module _ (f : Film) (A : Accepted f) where
  positive : Positive (system_of f)
  positive = accepted_positive A

  step_refusal : (entry : List ℕ) (s : Step) → Kept f entry s → theory.Bounded (rule f) entry → refusal_of s ≡ call_check f (call_of s)
  step_refusal p (ran budget order on answer exit) k B =
      let passes : run_check f p order ≡ order_check order = field_accepted f p true (order_check order) pass A B ∙ or_pass (order_check order) in
      ap refusal_in k.answer_is ∙ found_by _ (run f budget order on p).answer ∙ passes
    where
      or_pass : (x : Check) → (x or_else pass) ≡ x
      or_pass pass = refl
      or_pass (fail number place) = refl
  step_refusal p (proposed line proposal answer exit) k B =
      ap refusal_in k.answer_is ∙ found_by _ (propose f (line_start f line) proposal p).answer
      ∙ field_accepted f p (eqb (length proposal) f.columns) pass (line_check f line) A B

  -- ---- what holds of a history

  module _ (ss : List Step) (H : History f ss) where
    promised : Promise (rule f) exit_of (verdict_of (size_of f)) (zero_field f) ss
    promised = history (rule f) exit_of (verdict_of (size_of f)) (zeros_start (rule f)) ss (each_map exit_of (step_good f A) (zero_field f) ss H.kept)

    held : Holds f ss
    held =
        record {
          results = kept_results f (zero_field f) ss H.kept;
          refusals = each_both exit_of step_refusal (zero_field f) ss H.kept promised.bounded;
          unchanged = each_map exit_of (step_unchanged f) (zero_field f) ss H.kept;
          rises = promised.rising;
          under = each_map exit_of (λ entry s h z m. h z (feasible_to f positive m)) (zero_field f) ss promised.under;
          done_least = each_map exit_of (λ entry s h e. (feasible_from f positive (h e).feasible, λ z m. (h e).under z (feasible_to f positive m))) (zero_field f) ss promised.least;
          over_none = each_map exit_of (λ entry s h e z m. h e z (feasible_to f positive m)) (zero_field f) ss promised.none;
          stopped_least = λ q L. omega (arith, promised.few q (feasible_to f positive (least_feasible f positive L)));
          stopped_none = λ _. omega (arith, promised.few_ever);
        }

  pub accepted_claimed : Claimed f
  accepted_claimed =
      record {
        holds = held;
        same = λ ss ts G H. history_same (rule f) exit_of (verdict_of (size_of f)) (promised ss G) (promised ts H);
        every_list = λ cs. let r = all_kept f cs (zero_field f) in (ruled_all f cs (zero_field f), record { kept = r.0 }, r.1);
        least_exists = λ z m. let q = least_exists f positive m in (q.0, q.1);
        least_feasible = λ q L. least_feasible f positive L;
        least_or_none = ⊎_elim (λ l. inl (l.0, least_is f positive l.1)) (λ n. inr (λ z m. n z (feasible_to f positive m))) (least_or_none (rule f) (rule_monotone f positive));
      }

-- every list of calls on a film that passes its tests, from the zero field
pub film_claimed : (f : Film) → film_check f ≡ pass → Claimed f
film_claimed f e = accepted_claimed f (check_passes f true pass pass pass e).film

-- Demand 3. A bench maker may claim: whatever runs and line proposals are made on an accepted film file, in whatever order and number, refused
-- ones among them, what they answer and leave is what document 01's rules give; a run is refused by its ordering number alone and a proposal by its
-- length or line alone, and then the field stays as it was; it only rises and never passes a feasible field; Done is the least feasible field,
-- always the same; Over means that no field is feasible; and runs whose budget covers every cell are answered Stopped at most as often as the
-- least field's total says.
-- "An accepted film file" is one of either kind: `read_either` reads it, and `gauged_either` and `coefficients_either` say that it does so
-- just as the reader of its kind.
pub demand_3 : (bytes : List ℕ) (f : Film) → Bytes bytes → read_either bytes ≡ answered f → Claimed f
demand_3 bytes f b e = film_claimed f (file_film bytes f b e)
