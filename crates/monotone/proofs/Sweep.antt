-- What holds of a sweep from any bounded field (`sweep_outcome`), and what follows by its answer.
use mathlib.Core.Path.{◌≡◌, refl, subst}
use mathlib.Core.Logic.{◌⊎◌, inl, inr, ⊎_elim}
use mathlib.Core.Bool.{Bool, true, false, cond}
use mathlib.Core.List.{List}
use Prim.Native.Nat.{ℕ, zero, suc, ◌+◌, ◌-◌, ◌*◌, ◌≤◌, ◌<◌, zero-le}
use native.Mathlib.Nat.{le_trans, mul-add, mul-le-mul_left}
use native.Mathlib.Decide.{dec_lt, ℕ_discrete}
use native.Mathlib.Omega.{arith}
use borrow.Author.Tests.{leb-true, leb-false, eqb-true, eqb-false}
use lib.Dec.{leb, eqb}
use lib.ListN.{get_or, length-set}
use Rattle.monotone.specs.Field.{total, ◌⊑◌}
use Rattle.monotone.specs.Rule.{Rule, Monotone, Bounded, Satisfied, Feasible, LeastAbove}
use Rattle.monotone.specs.Ordering.{Permutes}
use Rattle.monotone.specs.Sweep.{Relaxation, quiet, raise, exceed, Ending, done, over, stopped, State, Swept, relax, next, begin, cell_of, relax_of, kept, raised, close, turn, sweep}
use Rattle.monotone.specs.Outcome.{Risen, Says, Outcome}
use Rattle.monotone.proofs.Order.{feasible_satisfied, rises_refl, ⊑_trans, raise-⊑, raise_under, set_under, total_set}
use Rattle.monotone.proofs.Compare.{pos_right}

-- a relaxation, with what it found
pub data Seen (ceiling required pressure : ℕ) : Relaxation → Type 0 where
  was_quiet : required ≤ pressure → Seen ceiling required pressure quiet
  was_raise : pressure < required → required ≤ ceiling → Seen ceiling required pressure raise
  was_exceed : pressure < required → ceiling < required → Seen ceiling required pressure exceed

pub see : (ceiling required pressure : ℕ) → Seen ceiling required pressure (relax ceiling required pressure)
see ceiling required pressure = go (leb required pressure) (leb required ceiling) refl refl
  where
    go : (a b : Bool) → leb required pressure ≡ a → leb required ceiling ≡ b → Seen ceiling required pressure (cond a quiet (cond b raise exceed))
    go true b e f = was_quiet (leb-true _ _ e)
    go false true e f = was_raise (leb-false _ _ e) (leb-true _ _ f)
    go false false e f = was_exceed (leb-false _ _ e) (leb-false _ _ f)

next_is : (n k : ℕ) → k < n → ((k + 1 ≡ n) × (next n k ≡ 0)) ⊎ ((k + 1 < n) × (next n k ≡ k + 1))
next_is n k h = go (eqb (k + 1) n) refl
  where
    go : (b : Bool) → eqb (k + 1) n ≡ b → ((k + 1 ≡ n) × (cond b 0 (k + 1) ≡ 0)) ⊎ ((k + 1 < n) × (cond b 0 (k + 1) ≡ k + 1))
    go true e = inl (eqb-true _ _ e, refl)
    go false e = inr (omega (arith, eqb-false (k + 1) n e), refl)

pub next_inside : (n k : ℕ) → k < n → next n k < n
next_inside n k h = ⊎_elim (λ e. omega arith) (λ e. omega arith) (next_is n k h)

-- the place j of n is one of the q that come before the place k, round and round
data Window (n k q j : ℕ) : Type 0 where
  before : j < k → k ≤ j + q → Window n k q j
  around : n + k ≤ j + q → Window n k q j

window_none : {n k j : ℕ} → j < n → Window n k 0 j → ⊥
window_none h (before a b) = omega arith
window_none h (around a) = omega arith

window_all : (n k j : ℕ) → k < n → j < n → Window n k n j
window_all n k j hk hj = elim (dec_lt j k) [ yes h ↦ before h (omega arith) | no h ↦ around (omega arith) ]

window_next : (n k q j : ℕ) → k < n → j < n → Window n (next n k) (q + 1) j → (j ≡ k) ⊎ Window n k q j
window_next n k q j hk hj = go (next n k) (next_is n k hk)
  where
    other : k ≤ j + q → j ≤ k → (j ≡ k) ⊎ Window n k q j
    other a b = elim (ℕ_discrete j k) [ yes e ↦ inl e | no e ↦ inr (before (omega arith) a) ]

    go : (m : ℕ) → ((k + 1 ≡ n) × (m ≡ 0)) ⊎ ((k + 1 < n) × (m ≡ k + 1)) → Window n m (q + 1) j → (j ≡ k) ⊎ Window n k q j
    go m (inl e) (before a b) = absurd (omega arith)
    go m (inl e) (around a) = other (omega arith) (omega arith)
    go m (inr e) (before a b) = other (omega arith) (omega arith)
    go m (inr e) (around a) = inr (around (omega arith))

abbrev Met : Rule → List ℕ → ℕ → Type 0
Met F q i = F.required q i ≤ get_or q i 0

-- on the way: the last `quiets` relaxations were quiet, so their cells have what they require
record Round (F : Rule) (order : ℕ → ℕ) (p : List ℕ) (s : State) : Type 0 where
  risen : Risen F p s.field s.raises
  inside : s.place < F.size
  seen : (j : ℕ) → j < F.size → Window F.size s.place s.quiets j → Met F s.field (order j)
  spent : s.visits ≤ F.size * s.raises + s.quiets

module _ (F : Rule) (order : ℕ → ℕ) (M : Monotone F) (N : Permutes F.size order) (p : List ℕ) where
  round_begin : Bounded F p → Round F order p (begin p)
  round_begin f =
      record {
        risen = record { rises = rises_refl f; gain = omega arith };
        inside = M.some;
        seen = λ j h w. absurd (window_none h w);
        spent = zero-le;
      }

  module _ (s : State) (R : Round F order p s) where
    round_kept : Met F s.field (cell_of F order s) → Round F order p (kept F order s)
    round_kept ok =
        record {
          risen = R.risen;
          inside = next_inside _ _ R.inside;
          seen = λ j h w. ⊎_elim (λ e. rw e ok) (R.seen j h) (window_next _ _ _ j R.inside h w);
          spent = omega (arith, R.spent);
        }

    module _ (above : get_or s.field (cell_of F order s) 0 < F.required s.field (cell_of F order s)) where
      cell_in : cell_of F order s < F.size
      cell_in = N.cell _ R.inside

      required_under : (z : List ℕ) → Satisfied F z → p ⊑ z → F.required s.field (cell_of F order s) ≤ get_or z (cell_of F order s) 0
      required_under z m h = le_trans (M.mono (R.risen.rises.under z m h) _ cell_in) (m.met _ cell_in)

      risen_raised : F.required s.field (cell_of F order s) ≤ F.ceiling → Risen F p (raised F order s).field (s.raises + 1)
      risen_raised low =
          record {
            rises =
                record {
                  bounded = record { len = simp length-set R.risen.rises.bounded.len; low = set_under s.field _ _ (λ _. F.ceiling) R.risen.rises.bounded.low low };
                  rose = ⊑_trans R.risen.rises.rose (raise-⊑ _ _ _ (omega arith));
                  under = λ z m h. raise_under _ _ (R.risen.rises.under z m h) (required_under z m h);
                };
            gain = omega (arith, R.risen.gain, total_set s.field (cell_of F order s) (F.required s.field (cell_of F order s)) (omega (arith, cell_in, R.risen.rises.bounded.len)));
          }

      round_raised : s.quiets < F.size → F.required s.field (cell_of F order s) ≤ F.ceiling → Round F order p (raised F order s)
      round_raised few low =
          record {
            risen = risen_raised low;
            inside = next_inside _ _ R.inside;
            seen = λ j h w. absurd (window_none h w);
            spent = omega (arith, R.spent, mul-add F.size s.raises 1);
          }

module _ (F : Rule) (order : ℕ → ℕ) (M : Monotone F) (N : Permutes F.size order) (p : List ℕ) (a : ℕ) where
  all_met : (s : State) → Round F order p s → s.quiets ≡ F.size → Feasible F s.field
  all_met s R e = record { bounded = R.risen.rises.bounded; met = λ i h. go i (N.every i h) }
    where
      go : (i : ℕ) → (k : ℕ) × (k < F.size) × (order k ≡ i) → Met F s.field i
      go i k = rw (← k.2) (R.seen k.0 k.1 (rw e (window_all _ _ _ R.inside k.1)))

  -- one turn, where what follows it comes out well
  module _ (b : ℕ) (s : State) (R : Round F order p s) (few : s.quiets < F.size) (e : s.visits + suc b ≡ a) (k : State → Swept)
      (on : (t : State) → Round F order p t → t.quiets < F.size → t.visits + b ≡ a → Outcome F p a (k t)) where
    came_close : (t : Bool) → eqb (s.quiets + 1) F.size ≡ t → Round F order p (kept F order s) → Outcome F p a (close F order t (kept F order s) k)
    came_close true f R' =
        record {
          risen = R'.risen;
          spent = omega (arith, R'.spent, mul-add F.size s.raises 1);
          says = all_met (kept F order s) R' (eqb-true _ _ f);
        }
    came_close false f R' = on (kept F order s) R' (omega (arith, eqb-false (s.quiets + 1) F.size f)) (omega arith)

    came_turn : (v : Relaxation) → Seen F.ceiling (F.required s.field (cell_of F order s)) (get_or s.field (cell_of F order s) 0) v → Outcome F p a (turn F order v s k)
    came_turn quiet (was_quiet h) = came_close (eqb (s.quiets + 1) F.size) refl (round_kept F order M N p s R h)
    came_turn raise (was_raise h l) = on (raised F order s) (round_raised F order M N p s R h few l) M.some (omega arith)
    came_turn exceed (was_exceed h l) =
        record {
          risen = R.risen;
          spent = omega (arith, R.spent, mul-add F.size s.raises 1);
          says = (N.cell _ R.inside, l, λ z m u. omega (arith, required_under F order M N p s R h z (feasible_satisfied m) u, m.bounded.low (cell_of F order s)));
        }

  came : (b : ℕ) (s : State) → Round F order p s → s.quiets < F.size → s.visits + b ≡ a → Outcome F p a (sweep F order b s)
  unfolding sweep
  came zero s R few e =
      let stops : Says F p a stopped s = (omega arith, λ l. pos_right F.size s.raises {a = 0} (omega (arith, R.spent))) in
      record { risen = R.risen; spent = omega (arith, R.spent, mul-add F.size s.raises 1); says = stops }
  came (suc b) s R few e = came_turn b s R few e (sweep F order b) (came b) (relax_of F order s) (see _ _ _)

  pub sweep_outcome : Bounded F p → Outcome F p a (sweep F order a (begin p))
  sweep_outcome f = came a (begin p) (round_begin F order M N p f) M.some (omega arith)

-- What follows, by the answer.
module _ {F : Rule} {p : List ℕ} {a : ℕ} {r : Swept} (O : Outcome F p a r) where
  says : (x : Ending) → r.answer ≡ x → Says F p a x r.last
  says x e = subst (λ y. Says F p a y r.last) e O.says

  -- relaxations, by how far the total rose
  pub visits_bound : r.last.visits ≤ F.size * (1 + (total r.last.field - total p))
  visits_bound = le_trans O.spent (mul-le-mul_left F.size (omega (arith, O.risen.gain)))

  -- Done is the least feasible field at or above the start
  pub done_least : r.answer ≡ done → LeastAbove F p r.last.field
  done_least e =
      record {
        feasible = says done e;
        above = O.risen.rises.rose;
        under = λ z f. O.risen.rises.under z (feasible_satisfied f);
      }

  -- Over only if no field at or above the start is feasible
  pub over_none : (i : ℕ) → r.answer ≡ over i → (z : List ℕ) → Feasible F z → p ⊑ z → ⊥
  over_none i e = (says (over i) e).2

  -- Stopped with a budget that covers every cell: at least one raise
  pub stopped_raised : r.answer ≡ stopped → F.size ≤ a → 0 < r.last.raises
  stopped_raised e = (says stopped e).1

-- What the counters come to: no more relaxations than the budget, and no more raises than relaxations.
pub record Counted (budget : ℕ) (s : State) : Type 0 where
  pub few : s.visits ≤ budget
  pub some : s.raises ≤ s.visits

module _ (F : Rule) (order : ℕ → ℕ) (a : ℕ) where
  -- one turn, where what follows it counts well
  module _ (b : ℕ) (s : State) (e : s.visits + suc b ≡ a) (h : s.raises ≤ s.visits) (k : State → Swept)
      (on : (t : State) → t.visits + b ≡ a → t.raises ≤ t.visits → Counted a (k t).last) where
    count_close : (t : Bool) → Counted a (close F order t (kept F order s) k).last
    count_close true = record { few = omega arith; some = omega arith }
    count_close false = on (kept F order s) (omega arith) (omega arith)

    count_turn : (v : Relaxation) → Counted a (turn F order v s k).last
    count_turn quiet = count_close (eqb (s.quiets + 1) F.size)
    count_turn raise = on (raised F order s) (omega arith) (omega arith)
    count_turn exceed = record { few = omega arith; some = omega arith }

  counted : (b : ℕ) (s : State) → s.visits + b ≡ a → s.raises ≤ s.visits → Counted a (sweep F order b s).last
  unfolding sweep
  counted zero s e h = record { few = omega arith; some = h }
  counted (suc b) s e h = count_turn b s e h (sweep F order b) (counted b) (relax_of F order s)

  pub sweep_counts : (p : List ℕ) → Counted a (sweep F order a (begin p)).last
  sweep_counts p = counted a (begin p) (omega arith) (omega arith)
