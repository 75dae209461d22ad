-- The rule of a linear system: what it requires is the least pressure with slack ≥ 0, it is monotone, and a proposal is sound.
use mathlib.Core.Path.{◌≡◌}
use mathlib.Core.Logic.{◌↔◌}
use mathlib.Core.List.{List}
use Prim.Native.Nat.{ℕ, ◌+◌, ◌-◌, ◌*◌, ◌/◌, ◌≤◌, ◌<◌, zero-le}
use native.Mathlib.Nat.{le_trans, le_refl, mul_comm, add-mul, div-lt_iff_lt-mul}
use native.Mathlib.Omega.{arith}
use lib.ListN.{length, get_or, get_or-eq_default}
use Rattle.monotone.specs.Field.{◌⊑◌}
use Rattle.monotone.specs.Rule.{Monotone, Bounded, Satisfied, Rises}
use Rattle.monotone.specs.Linear.{System, negative_terms, positive_terms, required_of, rule_of, Positive, Dominant}
use Rattle.monotone.proofs.Compare.{pull_mono, pos_left, compare}

-- at a pressure of at least what is required no slack is negative, and at a lower one it is
pub required_enough : (d a l v : ℕ) → 0 < d → required_of d a l ≤ v → l ≤ d * v + a
required_enough d a l v h n =
    let m : l - a + (d - 1) < (v + 1) * d = (div-lt_iff_lt-mul h).0 (omega arith) in
    omega (arith, mul_comm v d, add-mul v 1 d)

pub required_least : (d a l v : ℕ) → 0 < d → l ≤ d * v + a → required_of d a l ≤ v
required_least d a l v h n =
    let m : (l - a + (d - 1)) / d < v + 1 = (div-lt_iff_lt-mul h).1 (omega (arith, mul_comm v d, add-mul v 1 d)) in
    omega arith

module _ (S : System) (P : Positive S) where
  -- slack ≥ 0 in a cell exactly where its pressure is at least what it requires
  pub slack_required : (p : List ℕ) (i : ℕ) → i < S.size → negative_terms S p i ≤ positive_terms S p i ↔ (rule_of S).required p i ≤ get_or p i 0
  slack_required p i h = (required_least _ _ _ _ (P.diagonal i h), required_enough _ _ _ _ (P.diagonal i h))

  negative_mono : {p q : List ℕ} → p ⊑ q → (i : ℕ) → negative_terms S p i ≤ negative_terms S q i
  negative_mono l i = omega (arith, pull_mono (S.links i) l.at)

  pub linear_monotone : Monotone (rule_of S)
  linear_monotone =
      record {
        some = P.some;
        mono = λ {p} {q} l i h.
            required_least _ _ _ _ (P.diagonal i h) (le_trans (negative_mono l i) (required_enough _ _ _ _ (P.diagonal i h) (le_refl ((rule_of S).required q i))));
      }

  -- a field is satisfied exactly where no slack is negative
  pub satisfied_slack : {z : List ℕ} → Satisfied (rule_of S) z → (i : ℕ) → i < S.size → negative_terms S z i ≤ positive_terms S z i
  satisfied_slack m i h = required_enough _ _ _ _ (P.diagonal i h) (m.met i h)

  pub slack_satisfied : {z : List ℕ} → length z ≡ S.size → ((i : ℕ) → i < S.size → negative_terms S z i ≤ positive_terms S z i) → Satisfied (rule_of S) z
  slack_satisfied e m = record { len = e; met = λ i h. required_least _ _ _ _ (P.diagonal i h) (m i h) }

pub dominant_positive : {S : System} {w : ℕ → ℕ} → Dominant S w → Positive S
dominant_positive {S} {w} D = record { some = D.some; diagonal = λ i h. pos_left (S.diagonal i) (w i) (D.row i h) }

module _ (S : System) (w : ℕ → ℕ) (D : Dominant S w) where
  -- A proposal is sound, whatever made it and be it above the ceiling or not: if each cell in which x is above p has a slack of at
  -- most 0 in x, then x is nowhere above a satisfied field at or above p.
  pub proposal_below : {p x : List ℕ} → length x ≡ S.size
      → ((i : ℕ) → i < S.size → get_or p i 0 < get_or x i 0 → positive_terms S x i ≤ negative_terms S x i)
      → (z : List ℕ) → Satisfied (rule_of S) z → p ⊑ z → x ⊑ z
  proposal_below {p} {x} e low z m h =
      record {
        at =
            compare S.size S.links S.diagonal w D.row (λ i. get_or x i 0) (λ i. get_or z i 0)
            (λ i o. rw (get_or-eq_default x 0 {n = i} (omega arith)) zero-le)
            (λ i b l. omega (arith, satisfied_slack S (dominant_positive D) m i b, low i b (omega (arith, h.at i))));
      }

  pub proposal_rises : {p x : List ℕ} → Bounded (rule_of S) x → p ⊑ x
      → ((i : ℕ) → i < S.size → get_or p i 0 < get_or x i 0 → positive_terms S x i ≤ negative_terms S x i) → Rises (rule_of S) p x
  proposal_rises f up low = record { bounded = f; rose = up; under = proposal_below f.len low }
