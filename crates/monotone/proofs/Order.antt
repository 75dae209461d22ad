-- The order on fields, their totals, a raise of one cell, and how calls compose.
use mathlib.Core.Path.{◌≡◌, subst}
use mathlib.Core.List.{List, [], ◌∷◌}
use Prim.Native.Nat.{ℕ, zero, suc, ◌+◌, ◌*◌, ◌≤◌, ◌<◌, zero-le}
use native.Mathlib.Nat.{le_refl, le_trans, le_antisymm, suc-mul}
use native.Mathlib.Decide.{dec_lt}
use native.Mathlib.Omega.{arith}
use lib.ListN.{length, get_or, set, get_or-eq_default}
use lib.Seq.{ext_get_or}
use Rattle.monotone.specs.Field.{total, ◌⊑◌}
use Rattle.monotone.specs.Rule.{Rule, Bounded, Satisfied, Feasible, Rises}

pub ⊑_refl : (p : List ℕ) → p ⊑ p
⊑_refl p = record { at = λ i. le_refl _ }

pub ⊑_trans : {p q r : List ℕ} → p ⊑ q → q ⊑ r → p ⊑ r
⊑_trans h k = record { at = λ i. le_trans (h.at i) (k.at i) }

pub ⊑-antisym : {p q : List ℕ} → length p ≡ length q → p ⊑ q → q ⊑ p → p ≡ q
⊑-antisym {p} {q} e h k = ext_get_or 0 p q e (λ i _. le_antisymm (h.at i) (k.at i))

-- the cells below n are enough for fields of n cells
pub ⊑-cells : (n : ℕ) {p q : List ℕ} → length p ≡ n → ((i : ℕ) → i < n → get_or p i 0 ≤ get_or q i 0) → p ⊑ q
⊑-cells n {p} {q} e h = record { at = cell }
  where
    cell : (i : ℕ) → get_or p i 0 ≤ get_or q i 0
    cell i = elim (dec_lt i n) [ yes l ↦ h i l | no l ↦ rw (get_or-eq_default p 0 {n = i} (omega arith)) zero-le ]

⊑-tail : {x y : ℕ} {p q : List ℕ} → (x ∷ p) ⊑ (y ∷ q) → p ⊑ q
⊑-tail h = record { at = λ i. h.at (suc i) }

[]-tail : {y : ℕ} {q : List ℕ} → [] ⊑ (y ∷ q) → [] ⊑ q
[]-tail h = record { at = λ i. h.at (suc i) }

tail-[] : {x : ℕ} {p : List ℕ} → (x ∷ p) ⊑ [] → p ⊑ []
tail-[] h = record { at = λ i. h.at (suc i) }

pub total_mono : {p q : List ℕ} → p ⊑ q → total p ≤ total q
total_mono {p = []} h = zero-le
total_mono {p = x ∷ p} {q = []} h = omega (arith, h.at 0, total_mono (tail-[] h))
total_mono {p = x ∷ p} {q = y ∷ q} h = omega (arith, h.at 0, total_mono (⊑-tail h))

-- somewhere below: a smaller total
pub total_strict : {p q : List ℕ} → p ⊑ q → (i : ℕ) → get_or p i 0 < get_or q i 0 → total p < total q
total_strict {q = []} h i l = omega arith
total_strict {p = []} {q = y ∷ q} h zero l = omega arith
total_strict {p = []} {q = y ∷ q} h (suc i) l = omega (arith, total_strict ([]-tail h) i l)
total_strict {p = x ∷ p} {q = y ∷ q} h zero l = omega (arith, total_mono (⊑-tail h))
total_strict {p = x ∷ p} {q = y ∷ q} h (suc i) l = omega (arith, h.at 0, total_strict (⊑-tail h) i l)

-- a cell that is set, no higher than f there, in a field that is nowhere above f
pub set_under : (p : List ℕ) (i v : ℕ) (f : ℕ → ℕ) → ((j : ℕ) → get_or p j 0 ≤ f j) → v ≤ f i → (j : ℕ) → get_or (set p i v) j 0 ≤ f j
set_under [] i v f h l j = h j
set_under (x ∷ p) zero v f h l zero = l
set_under (x ∷ p) zero v f h l (suc j) = h (suc j)
set_under (x ∷ p) (suc i) v f h l zero = h 0
set_under (x ∷ p) (suc i) v f h l (suc j) = set_under p i v (λ k. f (suc k)) (λ k. h (suc k)) l j

pub raise_under : {p z : List ℕ} (i v : ℕ) → p ⊑ z → v ≤ get_or z i 0 → set p i v ⊑ z
raise_under {p} {z} i v h l = record { at = set_under p i v (λ j. get_or z j 0) h.at l }

pub raise-⊑ : (p : List ℕ) (i v : ℕ) → get_or p i 0 ≤ v → p ⊑ set p i v
raise-⊑ p i v h = record { at = go p i h }
  where
    go : (p : List ℕ) (i : ℕ) → get_or p i 0 ≤ v → (j : ℕ) → get_or p j 0 ≤ get_or (set p i v) j 0
    go [] i h j = le_refl _
    go (x ∷ p) zero h zero = h
    go (x ∷ p) zero h (suc j) = le_refl _
    go (x ∷ p) (suc i) h zero = le_refl _
    go (x ∷ p) (suc i) h (suc j) = go p i h j

pub total_set : (p : List ℕ) (i v : ℕ) → i < length p → total (set p i v) + get_or p i 0 ≡ total p + v
total_set [] i v l = omega arith
total_set (x ∷ p) zero v l = omega arith
total_set (x ∷ p) (suc i) v l = omega (arith, total_set p i v (omega arith))

-- a field none of whose cells is above c
pub total_ceiling : (p : List ℕ) (c : ℕ) → ((i : ℕ) → get_or p i 0 ≤ c) → total p ≤ length p * c
total_ceiling [] c h = zero-le
total_ceiling (x ∷ p) c h = rw suc-mul (omega (arith, h 0, total_ceiling p c (λ i. h (suc i))))

pub rises_refl : {F : Rule} {p : List ℕ} → Bounded F p → Rises F p p
rises_refl {F} {p} f = record { bounded = f; rose = ⊑_refl p; under = λ z _ h. h }

pub rises_trans : {F : Rule} {p q r : List ℕ} → Rises F p q → Rises F q r → Rises F p r
rises_trans A B = record { bounded = B.bounded; rose = ⊑_trans A.rose B.rose; under = λ z m h. B.under z m (A.under z m h) }

pub bounded_total : {F : Rule} {p : List ℕ} → Bounded F p → total p ≤ F.size * F.ceiling
bounded_total {F} {p} f = subst (λ n. total p ≤ n * F.ceiling) f.len (total_ceiling p F.ceiling f.low)

pub feasible_satisfied : {F : Rule} {p : List ℕ} → Feasible F p → Satisfied F p
feasible_satisfied m = record { len = m.bounded.len; met = m.met }

pub satisfied_feasible : {F : Rule} {p : List ℕ} → Bounded F p → Satisfied F p → Feasible F p
satisfied_feasible f m = record { bounded = f; met = m.met }
