-- A line proposal is sound, whatever made it: accepted or rejected, the field rises to the one that it leaves.
use mathlib.Core.Path.{◌≡◌, refl, sym, ap, ◌∙◌}
use mathlib.Core.Bool.{Bool, true, false, not, cond, ◌&&◌, ◌||◌}
use mathlib.Core.List.{List}
use Prim.Native.Nat.{ℕ, ◌+◌, ◌-◌, ◌≤◌, ◌<◌, max}
use native.Mathlib.Decide.{dec_lt}
use native.Mathlib.Omega.{arith}
use borrow.Author.Tests.{leb-true, lt-ltb}
use lib.Dec.{leb, ltb}
use lib.ListN.{length, get_or, get_or-eq_default}
use Rattle.monotone.specs.Field.{◌⊑◌}
use Rattle.monotone.specs.Rule.{Bounded, Rises}
use Rattle.monotone.proofs.Order.{⊑-cells, rises_refl}
use Rattle.model.specs.Lists.{all_below}
use Rattle.model.specs.Integers.{at_most_zero}
use Rattle.model.specs.Film.{Film, size_of, weight_at, slack, rule}
use Rattle.model.specs.Proposal.{raised_at, raised_by, rises, rise_count, within_ceiling, tight, accepts, decided, propose}
use Rattle.model.proofs.Lists.{tabulate_length, tabulate_at, all_at}
use Rattle.model.proofs.Slacks.{bounded_cells, rule_rises}
use Rattle.model.specs.Accepted.{Accepted}
use Rattle.model.proofs.Checks.{and_parts, accepted_dominant}

-- a test of the n cells from `start` on, in one of them
row_test : (test : ℕ → Bool) (start n : ℕ) → all_below (λ j. test (start + j)) n ≡ true
    → (i : ℕ) → (start ≤ i) × (i < start + n) → test i ≡ true
row_test test start n e i h =
    let back : start + (i - start) ≡ i = omega arith in
    ap test (sym back) ∙ all_at (λ j. test (start + j)) n e (i - start) (omega arith)

-- a field q that is as long as p, nowhere below it, and above it in cells of the row only
record Lifted (f : Film) (start : ℕ) (p q : List ℕ) : Type 0 where
  len : length q ≡ size_of f
  up : p ⊑ q
  row : (i : ℕ) → i < size_of f → get_or p i 0 < get_or q i 0 → (start ≤ i) × (i < start + f.columns)

module _ (f : Film) (start : ℕ) (p q : List ℕ) (L : Lifted f start p q) (e : accepts f start p q ≡ true) where
  tests : (within_ceiling f start q ≡ true) × (tight f start p q ≡ true)
  tests =
      let t = and_parts (ltb 0 (rise_count f start p q) && within_ceiling f start q) (tight f start p q) e in
      ((and_parts (ltb 0 (rise_count f start p q)) (within_ceiling f start q) t.0).1, t.1)

  -- the tests have looked at each cell that rises: it is not above the ceiling, and its slack is at most 0
  rise_low : (i : ℕ) → i < size_of f → get_or p i 0 < get_or q i 0 → get_or q i 0 ≤ f.ceiling
  unfolding within_ceiling
  rise_low i b h = leb-true _ _ (row_test (λ j. leb (get_or q j 0) f.ceiling) start f.columns tests.0 i (L.row i b h))

  rise_tight : (i : ℕ) → i < size_of f → get_or p i 0 < get_or q i 0 → at_most_zero (slack f q i) ≡ true
  unfolding tight
  rise_tight i b h =
      rw (lt-ltb _ _ h) at
      (row_test (λ j. not (rises p q j) || at_most_zero (slack f q j)) start f.columns tests.1 i (L.row i b h))

  accepted_rises : Accepted f → Bounded (rule f) p → Rises (rule f) p q
  accepted_rises A B = rule_rises f (weight_at f) (accepted_dominant A) (bounded_cells L.len low) L.up rise_tight
    where
      low : (i : ℕ) → i < size_of f → get_or q i 0 ≤ f.ceiling
      low i b = elim (dec_lt (get_or p i 0) (get_or q i 0)) [ yes h ↦ rise_low i b h | no h ↦ omega (arith, B.low i) ]

module _ (f : Film) (start : ℕ) (proposal p : List ℕ) where
  -- the larger of pressure and proposal is above the pressure in the row only
  raised_row : (i : ℕ) → get_or p i 0 < raised_at start proposal p i → (start ≤ i) × (i < start + length proposal)
  raised_row i = go (leb start i) refl
    where
      go : (t : Bool) → leb start i ≡ t → get_or p i 0 < max (get_or p i 0) (cond t (get_or proposal (i - start) 0) 0)
          → (start ≤ i) × (i < start + length proposal)
      go true e h =
          let l : start ≤ i = leb-true start i e in
          elim (dec_lt (i - start) (length proposal)) [
            | yes b ↦ (l, omega arith)
            | no b ↦ absurd (omega (arith, get_or-eq_default proposal 0 {n = i - start} (omega arith)))
          ]
      go false e h = absurd (omega arith)

  raised_lifted : length proposal ≡ f.columns → length p ≡ size_of f → Lifted f start p (raised_by f start proposal p)
  unfolding raised_by
  raised_lifted l n =
      record {
        len = tabulate_length (size_of f) (raised_at start proposal p);
        up = ⊑-cells (size_of f) n (λ i b. rw (tabulate_at (size_of f) (raised_at start proposal p) 0 i b) (omega arith));
        row = λ i b h.
            rw (← l) (raised_row i (rw (tabulate_at (size_of f) (raised_at start proposal p) 0 i b) at h));
      }

  -- any proposal of C numbers, for the cells from `start` on
  pub propose_rises : Accepted f → Bounded (rule f) p → length proposal ≡ f.columns
      → Rises (rule f) p (propose f start proposal p).lent
  unfolding propose
  propose_rises A B l = go (accepts f start p (raised_by f start proposal p)) refl
    where
      go : (t : Bool) → accepts f start p (raised_by f start proposal p) ≡ t
          → Rises (rule f) p (decided t f start p (raised_by f start proposal p)).lent
      go true e = accepted_rises f start p _ (raised_lifted l B.len) e A B
      go false e = rises_refl B
