-- Runs: each order names every cell once, the program's own proposals are sound, and a run on an accepted film is a good call: Done
-- leaves the least field at or above the start that meets the film, and Over means that no field at or above the start meets it.
use mathlib.Core.Path.{◌≡◌, refl}
use mathlib.Core.Bool.{Bool, true, false, cond}
use mathlib.Core.List.{List}
use Prim.Native.Nat.{ℕ, zero, suc, ◌+◌, ◌-◌, ◌*◌, ◌≤◌, ◌<◌}
use native.Mathlib.Omega.{arith}
use lib.Dec.{leb}
use lib.ListN.{length}
use Rattle.monotone.specs.Field.{total}
use Rattle.monotone.specs.Rule.{Rule, Bounded, Rises, LeastAbove}
use Rattle.monotone.specs.Ordering.{Permutes}
use Rattle.monotone.specs.Sweep as theory
use Rattle.monotone.specs.Outcome.{Says, Outcome}
use Rattle.monotone.specs.History.{Verdict, Good, sweep_verdict}
use Rattle.monotone.proofs.Order.{feasible_satisfied, rises_refl, rises_trans}
use Rattle.monotone.proofs.Ordering.{permutes_up, permutes_down, permutes_split}
use Rattle.monotone.proofs.Sweep.{sweep_outcome, Counted, sweep_counts}
use Rattle.monotone.proofs.History.{good_sweep, call_visits}
use Rattle.model.specs.Film.{Film, size_of, rule}
use Rattle.model.specs.Proposal.{line_start}
use Rattle.model.specs.Estimate.{estimate, estimate_at}
use Rattle.model.specs.Run.{even_cell, order_of, ordering, Readied, propose_own, propose_lines, readied, RunAnswer, done, stopped, over, counted_in, end_of, run}
use Rattle.model.specs.declared.Counts.{Counts}
use Rattle.model.proofs.Lists.{tabulate_length}
use Rattle.model.specs.Accepted.{Accepted}
use Rattle.model.proofs.Slacks.{rule_monotone}
use Rattle.model.proofs.Checks.{accepted_positive}
use Rattle.model.proofs.Proposal.{propose_rises}

-- each order names every cell once
pub order_permutes : (columns n order : ℕ) → Permutes n (order_of columns n order)
unfolding order_of
order_permutes columns n zero = permutes_up n
order_permutes columns n (suc zero) = permutes_down n
order_permutes columns n (suc (suc o)) = permutes_split (even_cell columns) n

-- an estimate has a number for each column
pub estimate_length : (f : Film) (p : List ℕ) (start : ℕ) → length (estimate f p start) ≡ f.columns
unfolding estimate
estimate_length f p start = tabulate_length f.columns (estimate_at f p start)

-- a run's verdict
abbrev pub run_verdict : ℕ → ℕ → RunAnswer → Verdict
run_verdict n budget (done c) = Verdict.done
run_verdict n budget (stopped c) = cond (leb n budget) Verdict.exhausted Verdict.other
run_verdict n budget (over i c) = Verdict.over

-- is that of its sweep
verdict_end : (n budget : ℕ) (a : theory.Ending) (c : Counts) → run_verdict n budget (end_of a c) ≡ sweep_verdict n budget a
verdict_end n budget theory.done c = refl
verdict_end n budget (theory.over i) c = refl
verdict_end n budget theory.stopped c = refl

-- a run counts what its sweep did
counts_end : (a : theory.Ending) (c : Counts) → counted_in (end_of a c) ≡ c
counts_end theory.done c = refl
counts_end (theory.over i) c = refl
counts_end theory.stopped c = refl

module _ (f : Film) (budget order : ℕ) (on : Bool) (p : List ℕ) where
  -- the counters where the run's sweep ends
  run_counts : Counted budget
      (theory.sweep (rule f) (ordering f order) budget (theory.begin (readied f budget on p).field)).last
  run_counts = sweep_counts _ _ budget _

  -- no more relaxations than the budget, and no more raises than relaxations
  pub run_budget : (counted_in (run f budget order on p).answer).visits ≤ budget
  unfolding run
  run_budget = rw counts_end run_counts.few

  pub run_raises : (counted_in (run f budget order on p).answer).raises ≤ (counted_in (run f budget order on p).answer).visits
  unfolding run
  run_raises = rw counts_end run_counts.some

-- a good call that is Done holds the least feasible field at or above its start
pub good_least : {F : Rule} {p q : List ℕ} → Good F p q Verdict.done → LeastAbove F p q
good_least g =
    record {
      feasible = g.shows;
      above = g.rises.rose;
      under = λ z m. g.rises.under z (feasible_satisfied m);
    }

-- the cell of Over, from what the sweep's answer says
over_says : (F : Rule) (p : List ℕ) (budget : ℕ) (a : theory.Ending) (s : theory.State) (x c : Counts) (i : ℕ) → Says F p budget a s
    → end_of a x ≡ over i c → i < F.size
over_says F p budget theory.done s x c i told e = let z : ◌≡◌ {A = ℕ} 0 1 = cc in absurd (omega arith)
over_says F p budget (theory.over j) s x c i told e = let z : j ≡ i = cc in omega (arith, told.0)
over_says F p budget theory.stopped s x c i told e = let z : ◌≡◌ {A = ℕ} 0 1 = cc in absurd (omega arith)

over_end : {F : Rule} {p : List ℕ} {budget : ℕ} {r : theory.Swept} → Outcome F p budget r → (x c : Counts) (i : ℕ) → end_of r.answer x ≡ over i c
    → i < F.size
over_end {F} {p} {budget} {r} O x c i e = over_says F p budget r.answer r.last x c i O.says e

module _ (f : Film) (A : Accepted f) where
  -- the program's own proposal for a line, and for lines 1 to n
  own_rises : (line : ℕ) (s : Readied) → Bounded (rule f) s.field
      → Rises (rule f) s.field (propose_own f line s).field
  unfolding propose_own
  own_rises line s B = propose_rises f _ _ _ A B (estimate_length f s.field (line_start f line))

  pub lines_rise : (n : ℕ) (s : Readied) → Bounded (rule f) s.field
      → Rises (rule f) s.field (propose_lines f n s).field
  unfolding propose_lines
  lines_rise zero s B = rises_refl B
  lines_rise (suc n) s B = let R = lines_rise n s B in rises_trans R (own_rises (suc n) (propose_lines f n s) R.bounded)

  -- the proposals before the first relaxation
  pub readied_rises : (budget : ℕ) (on : Bool) (p : List ℕ) → Bounded (rule f) p
      → Rises (rule f) p (readied f budget on p).field
  unfolding readied
  readied_rises zero on p B = rises_refl B
  readied_rises (suc budget) true p B = lines_rise f.rows (record { field = p; accepted = 0 }) B
  readied_rises (suc budget) false p B = rises_refl B

  module _ (budget order : ℕ) (on : Bool) (p : List ℕ) (B : Bounded (rule f) p) where
    -- the sweep of a run, from the readied field
    run_outcome : Outcome (rule f) (readied f budget on p).field budget
        (theory.sweep (rule f) (ordering f order) budget (theory.begin (readied f budget on p).field))
    run_outcome =
        sweep_outcome _ _ (rule_monotone f (accepted_positive A)) (order_permutes f.columns (size_of f) order) _ budget
        (readied_rises budget on p B).bounded

    -- it is a good call
    pub run_good : Good (rule f) p (run f budget order on p).lent
        (run_verdict (size_of f) budget (run f budget order on p).answer)
    unfolding run
    run_good = rw verdict_end (good_sweep _ (readied_rises budget on p B) run_outcome)

    -- relaxations, by how far the total rose
    pub run_visits : (counted_in (run f budget order on p).answer).visits ≤ size_of f * (1 + (total (run f budget order on p).lent - total p))
    unfolding run
    run_visits = rw counts_end (call_visits (readied_rises budget on p B) run_outcome)

    -- Done holds the least field at or above the start that meets the film
    pub run_done_least : (c : Counts) → (run f budget order on p).answer ≡ done c
        → LeastAbove (rule f) p (run f budget order on p).lent
    run_done_least c e = good_least (rw e at run_good)

    -- Over names a cell of the grid
    pub run_over : (i : ℕ) (c : Counts) → (run f budget order on p).answer ≡ over i c → i < size_of f
    unfolding run
    run_over i c e = over_end run_outcome _ c i e
