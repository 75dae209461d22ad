-- Forwards along a line: the steps that are kept are document 01's, up to the line's end or a broken step.
use mathlib.Core.Path.{◌≡◌, refl, sym, ap, ◌∙◌}
use mathlib.Core.Bool.{Bool, true, false, true≢false}
use mathlib.Core.List.{List, []}
use Prim.Native.Nat.{ℕ, zero, suc, ◌+◌, ◌≤◌, ◌<◌}
use native.Mathlib.Nat.{le_antisymm}
use native.Mathlib.Numerals.{add-one}
use native.Mathlib.Decide.{dec_lt}
use native.Mathlib.Omega.{arith}
use lib.IntN.{ℤ}
use lib.ListN.{length, set}
use lib.Seq.{get_or-set_same, get_or-set_other}
use Rattle.std.specs.Prelude.{Option, None}
use Rattle.model.specs.declared.Head.{Head}
use Rattle.model.specs.Film.{Film, film_of, beside, across, neighbours}
use Rattle.model.specs.Estimate.{is_broken, eliminated}
use Rattle.model.specs.Estimate as paper
use Rattle.chain.specs.declared.Elimination.{Elimination}
use Rattle.chain.specs.declared.Elimination.TheVariants.{Idle}
use Rattle.chain.specs.declared.Preceding.{Preceding}
use Rattle.chain.specs.Line.{elimination_of, step_of}
use Rattle.chain.proofs.Steps.{unbroken_before}
use Rattle.elimination.specs.Line.{step_at, Recorded, Eliminated}

module _ (f : Film) (p : List ℕ) (start : ℕ) where
  -- what the n-th cell of the row yields, and idle before the first
  abbrev after : ℕ → paper.Elimination
  after n = eliminated f p start n

  -- a line that has not broken at a cell has broken nowhere before it
  unbroken_below : (n : ℕ) → is_broken (after n) ≡ false → (k : ℕ) → k ≤ n → is_broken (after k) ≡ false
  unfolding eliminated
  unbroken_below zero h k l = rw (le_antisymm l (omega arith)) h
  unbroken_below (suc n) h k l =
      elim (dec_lt n k) [
        | yes a ↦ rw (le_antisymm l a) h
        | no a ↦ unbroken_below n (unbroken_before _ _ _ _ _ h) k (omega arith)
      ]

  -- so one that broke at a cell is broken at each later one
  stays_broken : (k n : ℕ) → k ≤ n → is_broken (after k) ≡ true → is_broken (after n) ≡ true
  stays_broken k n l h = go (is_broken (after n)) refl
    where
      go : (t : Bool) → is_broken (after n) ≡ t → t ≡ true
      go true e = refl
      go false e = absurd (true≢false (sym h ∙ unbroken_below n e k l))

  -- The loop: n cells of the row are done, none of them broke the line, and the last one has handed its step on.
  pub record Going (n : ℕ) (steps : List Elimination) (preceding : Option Preceding) : Type 0 where
    pub preceding_is : step_of preceding ≡ after n
    pub unbroken : is_broken (after n) ≡ false
    pub recorded : Recorded f p start n steps

  pub going_begin : (steps : List Elimination) → Going 0 steps None
  unfolding eliminated
  going_begin steps = record { preceding_is = refl; unbroken = refl; recorded = record { step = λ k h. absurd (omega arith) } }

  module _ {n : ℕ} {steps : List Elimination} {preceding : Option Preceding} (next : Elimination) (G : Going n steps preceding)
      (s : elimination_of next ≡ step_at f p (start + n) (step_of preceding))
    where
      next_is : elimination_of next ≡ after (suc n)
      unfolding eliminated
      next_is = s ∙ ap (step_at f p (start + n)) G.preceding_is

      pub going_next : {handed : Option Preceding} → n < length steps → is_broken (elimination_of next) ≡ false → step_of handed ≡ elimination_of next
          → Going (n + 1) (set steps n next) handed
      going_next b u h =
          record {
            preceding_is = h ∙ rw add-one next_is;
            unbroken = rw (add-one, ← next_is) u;
            recorded = record {
              step = λ k h. elim (dec_lt k n) [
                | yes a ↦ rw (get_or-set_other steps n k next Idle (λ z. omega arith)) (G.recorded.step k a)
                | no a ↦ let z : k ≡ n = le_antisymm (omega arith) (omega arith) in rw (z, get_or-set_same steps n next Idle b) next_is
              ];
            };
          }

      -- a broken step may end the loop: the line is broken at its end too
      pub going_broken : n < f.columns → is_broken (elimination_of next) ≡ true → Eliminated f p start true steps
      going_broken b u =
          record {
            broken = sym (stays_broken (suc n) f.columns (omega arith) (rw (← next_is) u));
            kept = λ z. absurd (true≢false z);
          }

  pub going_done : {steps : List Elimination} {preceding : Option Preceding} → Going f.columns steps preceding → Eliminated f p start false steps
  going_done G = record { broken = sym G.unbroken; kept = λ _. G.recorded }

-- which weights a film has makes no difference to the elimination
module _ (head : Head) (weights diagonals rights ups : List ℕ) (sources : List ℤ) (p : List ℕ) (start : ℕ) where
  eliminated_weights : (n : ℕ)
      → eliminated (film_of head [] diagonals rights ups sources) p start n
      ≡ eliminated (film_of head weights diagonals rights ups sources) p start n
  unfolding eliminated neighbours beside across
  eliminated_weights zero = refl
  eliminated_weights (suc n) = ap (step_at (film_of head [] diagonals rights ups sources) p (start + n)) (eliminated_weights n)

  pub line_weights : {broke : Bool} {steps : List Elimination}
      → Eliminated (film_of head [] diagonals rights ups sources) p start broke steps
      → Eliminated (film_of head weights diagonals rights ups sources) p start broke steps
  line_weights E =
      record {
        broken = E.broken ∙ ap is_broken (eliminated_weights _);
        kept = λ z. let R = E.kept z in record { step = λ k h. R.step k h ∙ eliminated_weights (suc k) };
      }
