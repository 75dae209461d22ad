-- The comparison principle (discrete maximum principle): where weights show that the matrix is Minkowski, a field x whose row sum is
-- at most that of z in each cell where x is above z, is nowhere above z. Take the cell with the greatest excess in proportion to its
-- weight; fractions are compared by cross-multiplication.
use mathlib.Core.Path.{◌≡◌, refl, ap}
use mathlib.Core.List.{List, [], ◌∷◌}
use Prim.Native.Nat.{ℕ, zero, suc, ◌+◌, ◌-◌, ◌*◌, ◌≤◌, ◌<◌, zero-le}
use native.Mathlib.Nat.{le_refl, le_trans, le_antisymm, mul-add, add-mul, mul_assoc, mul_left_comm, mul_right_comm, mul-le-mul_left, mul-le-mul_right, le_of_mul-le-mul_right, mul-lt-mul_of_pos_left, zero-mul, sub-eq-zero_of_le, mul-pos}
use native.Mathlib.Decide.{dec_le}
use native.Mathlib.Omega.{arith}
use Rattle.monotone.specs.Links.{pull}

pub pull_mono : (ls : List (ℕ × ℕ)) {p q : ℕ → ℕ} → ((j : ℕ) → p j ≤ q j) → pull ls p ≤ pull ls q
pull_mono [] h = le_refl 0
pull_mono (l ∷ ls) h = omega (arith, mul-le-mul_left l.1 (h l.0), pull_mono ls h)

pub pull_add : (ls : List (ℕ × ℕ)) (a b c : ℕ → ℕ) → ((j : ℕ) → a j ≡ b j + c j) → pull ls a ≡ pull ls b + pull ls c
pull_add [] a b c h = refl
pull_add (l ∷ ls) a b c h =
    let here : l.1 * a l.0 ≡ l.1 * (b l.0 + c l.0) = ap (λ (k : ℕ). l.1 * k) (h l.0) in
    omega (arith, here, mul-add l.1 (b l.0) (c l.0), pull_add ls a b c h)

pull_split : (ls : List (ℕ × ℕ)) (x z d : ℕ → ℕ) → ((j : ℕ) → x j ≤ z j + d j) → pull ls x ≤ pull ls z + pull ls d
pull_split [] x z d h = zero-le
pull_split (l ∷ ls) x z d h =
    omega (arith, mul-le-mul_left l.1 (h l.0), mul-add l.1 (z l.0) (d l.0), pull_split ls x z d h)

pull_cross : (ls : List (ℕ × ℕ)) (d w : ℕ → ℕ) (a b : ℕ) → ((j : ℕ) → d j * a ≤ b * w j) → pull ls d * a ≤ b * pull ls w
pull_cross [] d w a b h = rw zero-mul zero-le
pull_cross (l ∷ ls) d w a b h =
    rw (add-mul, mul_assoc, mul-add, mul_left_comm b l.1 (w l.0))
    (omega (arith, mul-le-mul_left l.1 (h l.0), pull_cross ls d w a b h))

-- of the cells up to n, m has the greatest d in proportion to w
record Peak (d w : ℕ → ℕ) (n m : ℕ) : Type 0 where
  within : m ≤ n
  top : (j : ℕ) → j ≤ n → d j * w m ≤ d m * w j

-- a b c d e f: d j, w j, d m, w m, d k, w k
cross_trans : (a b c d e f : ℕ) → 0 < d → a * d ≤ c * b → c * f ≤ e * d → a * f ≤ e * b
cross_trans a b c d e f pos h k =
    le_of_mul-le-mul_right {k = d} (omega (arith, mul-le-mul_right f h, mul-le-mul_right b k, mul_right_comm a d f, mul_right_comm c b f, mul_right_comm e d b)) pos

one_more : (P : ℕ → Type 0) (n : ℕ) → ((j : ℕ) → j ≤ n → P j) → P (suc n) → (j : ℕ) → j ≤ suc n → P j
one_more P n f l j h = elim (dec_le j n) [ yes b ↦ f j b | no b ↦ rw (le_antisymm h (omega arith)) l ]

peak_more : (d w : ℕ → ℕ) (n m : ℕ) → 0 < w m → Peak d w n m → (m' : ℕ) × Peak d w (suc n) m'
peak_more d w n m pos P =
    elim (dec_le (d m * w (suc n)) (d (suc n) * w m)) [
      | yes l ↦ (suc n, record { within = le_refl _; top = one_more (λ j. d j * w (suc n) ≤ d (suc n) * w j) n (up l) (le_refl _) })
      | no l ↦ (m, record { within = omega arith; top = one_more (λ j. d j * w m ≤ d m * w j) n P.top (omega arith) })
    ]
  where
    up : d m * w (suc n) ≤ d (suc n) * w m → (j : ℕ) → j ≤ n → d j * w (suc n) ≤ d (suc n) * w j
    up l j h = cross_trans (d j) (w j) (d m) (w m) (d (suc n)) (w (suc n)) pos (P.top j h) l

peak : (d w : ℕ → ℕ) (n : ℕ) → ((i : ℕ) → i ≤ n → 0 < w i) → (m : ℕ) × Peak d w n m
peak d w zero pos = (0, record { within = le_refl 0; top = λ j h. rw (le_antisymm h zero-le) (le_refl _) })
peak d w (suc n) pos =
    let m = peak d w n (λ i h. pos i (omega arith)) in
    peak_more d w n m.0 (pos m.0 (omega arith)) m.1

-- in a cell of greatest excess: diagonal × excess ≤ what the excesses pull, and that is less
module _ (ls : List (ℕ × ℕ)) (k : ℕ) (x z w : ℕ → ℕ) (m : ℕ) where
  no_peak : pull ls w < k * w m → ((j : ℕ) → (x j - z j) * w m ≤ (x m - z m) * w j) → z m < x m
      → k * x m + pull ls z ≤ k * z m + pull ls x → ⊥
  no_peak dominant top above weak =
      let d : ℕ → ℕ = λ j. x j - z j in
      let split : pull ls x ≤ pull ls z + pull ls d = pull_split ls x z d (λ j. omega arith) in
      let cross : pull ls d * w m ≤ d m * pull ls w = pull_cross ls d w (w m) (d m) top in
      let grows : k * (z m + d m) ≡ k * x m = ap (λ t. k * t) (omega arith) in
      let pulled : k * d m ≤ pull ls d = omega (arith, mul-add k (z m) (d m)) in
      omega (arith, mul-le-mul_right (w m) pulled, mul-lt-mul_of_pos_left {k = d m} dominant (omega arith), mul_assoc k (d m) (w m), mul_left_comm k (d m) (w m))

pub pos_right : (k b : ℕ) {a : ℕ} → a < k * b → 0 < b
pos_right k zero h = omega arith
pos_right k (suc b) h = omega arith

pub pos_left : (a k : ℕ) {b : ℕ} → b < a * k → 0 < a
pos_left zero k h = omega (arith, zero-mul k)
pos_left (suc a) k h = omega arith

module _ (n : ℕ) (links : ℕ → List (ℕ × ℕ)) (diagonal w : ℕ → ℕ) (dominant : (i : ℕ) → i < n → pull (links i) w < diagonal i * w i) where
  weighed : (i : ℕ) → i < n → 0 < w i
  weighed i h = pos_right (diagonal i) (w i) (dominant i h)

  -- x is nowhere above z, if that is so past the last cell, and x is no weaker than z wherever it is above z
  pub compare : (x z : ℕ → ℕ) → ((i : ℕ) → n ≤ i → x i ≤ z i)
      → ((i : ℕ) → i < n → z i < x i → diagonal i * x i + pull (links i) z ≤ diagonal i * z i + pull (links i) x) → (i : ℕ) → x i ≤ z i
  compare x z out weak i =
      elim (dec_le n i) [
        | yes h ↦ out i h
        | no h ↦ elim (dec_le (x i) (z i)) [ yes l ↦ l | no l ↦ absurd (go h l (peak (λ j. x j - z j) w (n - 1) (λ j b. weighed j (omega arith)))) ]
      ]
    where
      go : ¬ (n ≤ i) → ¬ (x i ≤ z i) → (m : ℕ) × Peak (λ j. x j - z j) w (n - 1) m → ⊥
      go h l (m, P) = no_peak (links m) (diagonal m) x z w m (dominant m b) top above (weak m b above)
        where
          b : m < n
          b = omega arith

          top : (j : ℕ) → (x j - z j) * w m ≤ (x m - z m) * w j
          top j = elim (dec_le n j) [ yes o ↦ rw (sub-eq-zero_of_le (out j o), zero-mul) zero-le | no o ↦ P.top j (omega arith) ]

          some : 0 < (x i - z i) * w m
          some = mul-pos (omega arith) (weighed m b)

          above : z m < x m
          above = omega (arith, pos_left (x m - z m) (w i) (le_trans some (top i)))
