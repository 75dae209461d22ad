-- What holds of any list of steps from a start, where each step by itself is good (`history`); and that a least field exists or none is feasible.
use mathlib.Core.Path.{◌≡◌, refl, sym, ◌∙◌}
use mathlib.Core.Logic.{◌⊎◌, inl, inr}
use mathlib.Core.Bool.{Bool, true, false, cond}
use mathlib.Core.List.{List, [], ◌∷◌}
use Prim.Native.Nat.{ℕ, zero, suc, ◌+◌, ◌-◌, ◌*◌, ◌≤◌, ◌<◌, zero-le}
use native.Mathlib.Nat.{le_trans, mul-le-mul_left}
use native.Mathlib.Omega.{arith}
use borrow.Author.Tests.{leb-true}
use lib.Dec.{leb}
use lib.ListN.{get_or, replicate, length-replicate}
use Rattle.monotone.specs.Field.{total, ◌⊑◌}
use Rattle.monotone.specs.Rule.{Rule, Monotone, Bounded, Feasible, Start, Rises, Least}
use Rattle.monotone.specs.Sweep.{Ending, done, over, stopped, Swept}
use Rattle.monotone.specs.Outcome.{Says, Outcome}
use Rattle.monotone.specs.History.{Verdict, Shows, Good, sweep_verdict, count_of, zeros, Each, exhaustions, Promise}
use Rattle.monotone.proofs.Order.{feasible_satisfied, ⊑-antisym, total_mono, bounded_total, rises_refl, rises_trans}
use Rattle.monotone.proofs.Ordering.{permutes_up}
use Rattle.monotone.proofs.Sweep.{sweep_outcome, visits_bound}

zeros_at : (n i : ℕ) → get_or {A = ℕ} (replicate n 0) i 0 ≡ 0
zeros_at zero i = refl
zeros_at (suc n) zero = refl
zeros_at (suc n) (suc i) = zeros_at n i

pub zeros_under : (F : Rule) (z : List ℕ) → zeros F ⊑ z
zeros_under F z = record { at = λ i. rw (zeros_at F.size i) zero-le }

pub zeros_bounded : (F : Rule) → Bounded F (zeros F)
zeros_bounded F = record { len = length-replicate _ _; low = λ i. rw (zeros_at F.size i) zero-le }

-- the zero field is a start
pub zeros_start : (F : Rule) → Start F (zeros F)
zeros_start F = record { bounded = zeros_bounded F; under = λ z _. zeros_under F z }

pub zeros_total : (n : ℕ) → total (replicate n 0) ≡ 0
zeros_total zero = refl
zeros_total (suc n) = omega (arith, zeros_total n)

-- there is only one least field
pub least_one : {F : Rule} {p q : List ℕ} → Least F p → Least F q → p ≡ q
least_one {F} {p} {q} A B =
    ⊑-antisym (A.feasible.bounded.len ∙ sym B.feasible.bounded.len) (A.under q B.feasible) (B.under p A.feasible)

-- Good calls: one that leaves the field alone, a sound proposal, and a sweep after proposals that took the field from p to q.
pub good_same : {F : Rule} {p : List ℕ} → Bounded F p → Good F p p Verdict.other
good_same f = record { rises = rises_refl f; shows = tt }

pub good_proposal : {F : Rule} {p q : List ℕ} → Rises F p q → Good F p q Verdict.other
good_proposal A = record { rises = A; shows = tt }

pub good_sweep : {F : Rule} {p q : List ℕ} {budget : ℕ} (r : Swept) → Rises F p q → Outcome F q budget r
    → Good F p r.last.field (sweep_verdict F.size budget r.answer)
good_sweep {F} {p} {q} {budget} r A O =
    record { rises = rises_trans A O.risen.rises; shows = by r.answer O.says }
  where
    covered : (t : Bool) → leb F.size budget ≡ t → (F.size ≤ budget → 0 < r.last.raises)
        → Shows F p r.last.field (cond t Verdict.exhausted Verdict.other)
    covered true e h = omega (arith, h (leb-true _ _ e), O.risen.gain, total_mono A.rose)
    covered false e h = tt

    by : (x : Ending) → Says F q budget x r.last → Shows F p r.last.field (sweep_verdict F.size budget x)
    by done h = h
    by (over i) h = λ z M l. h.2 z M (A.under z (feasible_satisfied M) l)
    by stopped h = covered (leb F.size budget) refl h.1

-- the relaxations of a sweep, where proposals took the field from p to q before it
pub call_visits : {F : Rule} {p q : List ℕ} {budget : ℕ} {r : Swept} → Rises F p q → Outcome F q budget r
    → r.last.visits ≤ F.size * (1 + (total r.last.field - total p))
call_visits {F} {p} {q} {budget} {r} A O =
    le_trans (visits_bound O) (mul-le-mul_left F.size (omega (arith, total_mono A.rose)))

-- A rule has a least field or nothing is feasible: a sweep from the zero field with enough budget does not end in Stopped.
pub least_or_none : (F : Rule) → Monotone F → ((q : List ℕ) × Least F q) ⊎ ((z : List ℕ) → Feasible F z → ⊥)
least_or_none F M = go _ (sweep_outcome F (λ k. k) M (permutes_up F.size) (zeros F) budget (zeros_bounded F))
  where
    budget : ℕ
    budget = F.size * (F.size * F.ceiling + 1) + 1

    go : (r : Swept) → Outcome F (zeros F) budget r → ((q : List ℕ) × Least F q) ⊎ ((z : List ℕ) → Feasible F z → ⊥)
    go r O = by r.answer O.says
      where
        by : (x : Ending) → Says F (zeros F) budget x r.last → ((q : List ℕ) × Least F q) ⊎ ((z : List ℕ) → Feasible F z → ⊥)
        by done h =
            inl (r.last.field, record { feasible = h; under = λ z M. O.risen.rises.under z (feasible_satisfied M) (zeros_under F z) })
        by (over i) h = inr (λ z M. h.2 z M (zeros_under F z))
        by stopped h =
            let few : r.last.raises + 1 ≤ F.size * F.ceiling + 1 = omega (arith, O.risen.gain, bounded_total O.risen.rises.bounded) in
            absurd (omega (arith, h.0, O.spent, mul-le-mul_left F.size few))

-- a call on a field p that calls from a start have come to
module _ {F : Rule} {s p : List ℕ} (S : Start F s) (R : Rises F s p) where
  reached_under : (z : List ℕ) → Feasible F z → p ⊑ z
  reached_under z M = R.under z (feasible_satisfied M) (S.under z M)

  good_done : {q : List ℕ} → Good F p q Verdict.done → Least F q
  good_done g =
      record { feasible = g.shows; under = λ z M. g.rises.under z (feasible_satisfied M) (reached_under z M) }

  good_over : {q : List ℕ} → Good F p q Verdict.over → (z : List ℕ) → Feasible F z → ⊥
  good_over g z M = g.shows z M (reached_under z M)

good_gain : {F : Rule} (v : Verdict) {p q : List ℕ} → Good F p q v → count_of v + total p ≤ total q
good_gain Verdict.done g = omega (arith, total_mono g.rises.rose)
good_gain Verdict.over g = omega (arith, total_mono g.rises.rose)
good_gain Verdict.exhausted g = omega (arith, g.shows)
good_gain Verdict.other g = omega (arith, total_mono g.rises.rose)

-- of each step: P gives Q, and P and R give Q
module _ {S : Type 0} (exit : S → List ℕ) where
  pub each_map : {P Q : List ℕ → S → Type 0} → ((entry : List ℕ) (s : S) → P entry s → Q entry s) → (entry : List ℕ) (ss : List S)
      → Each exit P entry ss → Each exit Q entry ss
  each_map h entry [] all = tt
  each_map h entry (s ∷ ss) all = (h entry s all.0, each_map h (exit s) ss all.1)

  pub each_both : {P R Q : List ℕ → S → Type 0} → ((entry : List ℕ) (s : S) → P entry s → R entry s → Q entry s) → (entry : List ℕ) (ss : List S)
      → Each exit P entry ss → Each exit R entry ss → Each exit Q entry ss
  each_both h entry [] all others = tt
  each_both h entry (s ∷ ss) all others = (h entry s all.0 others.0, each_both h (exit s) ss all.1 others.1)

module _ (F : Rule) {S : Type 0} (exit : S → List ℕ) (verdict : S → Verdict) where
  -- a step is good on a bounded field
  abbrev pub GoodStep : List ℕ → S → Type 0
  GoodStep entry s = Bounded F entry → Good F entry (exit s) (verdict s)

  module _ {p : List ℕ} (start : Start F p) where
    -- the field that a step takes up has come from the start, and the step is good
    record Reached (entry : List ℕ) (s : S) : Type 0 where
      from : Rises F p entry
      good : Good F entry (exit s) (verdict s)

    reached : (entry : List ℕ) (ss : List S) → Rises F p entry → Each exit GoodStep entry ss → Each exit Reached entry ss
    reached entry [] R all = tt
    reached entry (s ∷ ss) R all =
        let g = all.0 R.bounded in
        (record { from = R; good = g }, reached (exit s) ss (rises_trans R g.rises) all.1)

    below : (entry : List ℕ) (s : S) → Reached entry s → (z : List ℕ) → Feasible F z → exit s ⊑ z
    below entry s R z M = R.good.rises.under z (feasible_satisfied M) (reached_under start R.from z M)

    -- so many are exhausted as any bound on every step's field allows
    counted : (bound : ℕ) (entry : List ℕ) (ss : List S) → total entry ≤ bound → Each exit Reached entry ss
        → Each exit (λ _ s. total (exit s) ≤ bound) entry ss → exhaustions verdict ss + total entry ≤ bound
    counted bound entry [] l all low = omega arith
    counted bound entry (s ∷ ss) l all low =
        omega (arith, good_gain (verdict s) all.0.good, counted bound (exit s) ss low.0 all.1 low.1)

    -- Every list of good steps from a start keeps the promise.
    pub history : (ss : List S) → Each exit GoodStep p ss → Promise F exit verdict p ss
    history ss steps =
        let all = reached p ss (rises_refl start.bounded) steps in
        record {
          bounded = each_map exit (λ entry s R. R.from.bounded) p ss all;
          rising = each_map exit (λ entry s R. R.good.rises.rose) p ss all;
          under = each_map exit below p ss all;
          least = each_map exit (λ entry s R e. good_done start R.from (rw e at R.good)) p ss all;
          none = each_map exit (λ entry s R e. good_over start R.from (rw e at R.good)) p ss all;
          few = λ z M. counted (total z) p ss (total_mono (start.under z M)) all (each_map exit (λ entry s R. total_mono (below entry s R z M)) p ss all);
          few_ever = counted (F.size * F.ceiling) p ss (bounded_total start.bounded) all (each_map exit (λ entry s R. bounded_total R.good.rises.bounded) p ss all);
        }

  -- any two Done, in one list or in two, leave the same field
  pub history_same : {p q : List ℕ} {ss ts : List S} → Promise F exit verdict p ss → Promise F exit verdict q ts
      → Each exit (λ _ s. Each exit (λ _ t. verdict s ≡ Verdict.done → verdict t ≡ Verdict.done → exit s ≡ exit t) q ts) p ss
  history_same {p} {q} {ss} {ts} A B =
      each_map exit (λ _ s least. each_map exit (λ _ t other d e. least_one (least d) (other e)) q ts B.least) p ss A.least
