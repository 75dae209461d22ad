-- The accept test is document 01's condition, no more and no less.
use mathlib.Core.Path.{◌≡◌}
use mathlib.Core.Logic.{◌↔◌}
use mathlib.Core.Bool.{Bool, true, false, not, ◌&&◌, ◌||◌}
use mathlib.Core.List.{List}
use Prim.Native.Nat.{ℕ, ◌+◌, ◌<◌}
use native.Mathlib.Decide.{dec_lt}
use native.Mathlib.Omega.{arith}
use borrow.Author.Tests.{leb-true, le-leb, ltb-true, lt-ltb, le-ltb}
use lib.Dec.{leb, ltb}
use lib.ListN.{get_or}
use Rattle.model.specs.Integers.{at_most_zero}
use Rattle.model.specs.Film.{Film, slack}
use Rattle.model.specs.Proposal.{rises, rise_count, within_ceiling, tight, accepts, Acceptable}
use Rattle.model.proofs.Lists.{all_at, all_true, count_some, count_hit}
use Rattle.model.proofs.Checks.{and_parts}

module _ (f : Film) (start : ℕ) (p q : List ℕ) where
  abbrev cell_tight : ℕ → Bool
  cell_tight j = not (rises p q (start + j)) || at_most_zero (slack f q (start + j))

  cell_tight_lem : (j : ℕ) → (get_or p (start + j) 0 < get_or q (start + j) 0 → at_most_zero (slack f q (start + j)) ≡ true) → cell_tight j ≡ true
  cell_tight_lem j h =
      elim (dec_lt (get_or p (start + j) 0) (get_or q (start + j) 0)) [
        | yes l ↦ rw (lt-ltb _ _ l) (h l)
        | no l ↦ let e : rises p q (start + j) ≡ false = le-ltb (get_or p (start + j) 0) (get_or q (start + j) 0) (omega arith) in rw e
      ]

  pub accept_condition : (accepts f start p q ≡ true) ↔ Acceptable f start p q
  unfolding rise_count within_ceiling tight
  accept_condition = (to, from)
    where
      to : accepts f start p q ≡ true → Acceptable f start p q
      to e =
          let t = and_parts (ltb 0 (rise_count f start p q) && within_ceiling f start q) (tight f start p q) e in
          let s = and_parts (ltb 0 (rise_count f start p q)) (within_ceiling f start q) t.0 in
          let c = count_some (λ j. rises p q (start + j)) f.columns (ltb-true _ _ s.0) in
          record {
            some = (c.0, c.1, ltb-true _ _ c.2);
            low = λ j h. leb-true _ _ (all_at (λ k. leb (get_or q (start + k) 0) f.ceiling) f.columns s.1 j h);
            tight = λ j h l. rw (lt-ltb _ _ l) at (all_at cell_tight f.columns t.1 j h);
          }

      from : Acceptable f start p q → accepts f start p q ≡ true
      from A =
          rw (
            lt-ltb 0 (rise_count f start p q) (count_hit (λ j. rises p q (start + j)) f.columns A.some.0 A.some.1 (lt-ltb _ _ A.some.2)),
            all_true (λ k. leb (get_or q (start + k) 0) f.ceiling) f.columns (λ j h. le-leb _ _ (A.low j h)),
            all_true cell_tight f.columns (λ j h. cell_tight_lem j (A.tight j h)),
          )
