-- Signed numbers as differences of naturals: after these laws, a fact about them is one about naturals.
use mathlib.Core.Path.{◌≡◌, refl, sym, ap, ap₂, ◌∙◌}
use Prim.Native.Nat.{ℕ, zero, suc, ◌+◌, ◌-◌, ◌*◌, ◌≤◌, ◌<◌}
use native.Mathlib.Decide.{dec_lt}
use native.Mathlib.Nat.{mul-le-mul_left}
use native.Mathlib.Omega.{arith}
use borrow.Author.Tests.{lt-ltb, le-ltb, le-leb, lt-leb}
use lib.Dec.{leb, ltb}
use lib.IntN.{ℤ, pos, negsuc, neg_ℤ, sub_ℕ, ◌+ℤ◌, ◌-ℤ◌, ◌*ℤ◌, nat_abs}
use Rattle.model.specs.Integers.{negative, at_most_zero, positive_part, negative_part}

pub sub_lt : (a b : ℕ) → a < b → sub_ℕ a b ≡ negsuc (b - suc a)
sub_lt a b h = rw (lt-ltb a b h)

pub sub_le : (a b : ℕ) → b ≤ a → sub_ℕ a b ≡ pos (a - b)
sub_le a b h = rw (le-ltb a b h)

pub by_order : {P : Type 0} (a b : ℕ) → (a < b → P) → (b ≤ a → P) → P
by_order a b f g = elim (dec_lt a b) [ yes h ↦ f h | no h ↦ g (omega arith) ]

-- equal differences
pub sub_same : (a b c d : ℕ) → a + d ≡ c + b → sub_ℕ a b ≡ sub_ℕ c d
sub_same a b c d e =
    by_order a b
    (λ h. sub_lt a b h ∙ ap negsuc (omega arith) ∙ sym (sub_lt c d (omega arith)))
    (λ h. sub_le a b h ∙ ap pos (omega arith) ∙ sym (sub_le c d (omega arith)))

pub sub_pos : (a b : ℕ) → pos a -ℤ pos b ≡ sub_ℕ a b
sub_pos a zero = ap pos (omega arith) ∙ sym (sub_le a 0 (omega arith))
sub_pos a (suc k) = refl

-- a signed number is the difference of its two parts
pub sub_parts : (z : ℤ) → z ≡ sub_ℕ (positive_part z) (negative_part z)
sub_parts (pos n) = ap pos (omega arith) ∙ sym (sub_le n 0 (omega arith))
sub_parts (negsuc n) = ap negsuc (omega arith) ∙ sym (sub_lt 0 (suc n) (omega arith))

-- the two parts are within its magnitude
pub positive_low : (s : ℤ) → positive_part s ≤ nat_abs s
positive_low (pos n) = omega arith
positive_low (negsuc n) = omega arith

pub negative_low : (s : ℤ) → negative_part s ≤ nat_abs s
negative_low (pos n) = omega arith
negative_low (negsuc n) = omega arith

neg_pos : (n : ℕ) → neg_ℤ (pos n) ≡ sub_ℕ 0 n
neg_pos zero = sym (sub_le 0 0 (omega arith))
neg_pos (suc n) = ap negsuc (omega arith) ∙ sym (sub_lt 0 (suc n) (omega arith))

pub sub_neg : (a b : ℕ) → neg_ℤ (sub_ℕ a b) ≡ sub_ℕ b a
sub_neg a b =
    by_order a b
    (λ h. ap neg_ℤ (sub_lt a b h) ∙ ap pos (omega arith) ∙ sym (sub_le b a (omega arith)))
    (λ h. ap neg_ℤ (sub_le a b h) ∙ neg_pos (a - b) ∙ sub_same 0 (a - b) b a (omega arith))

-- differences add up
add_lt : (x y c d : ℕ) → negsuc x +ℤ sub_ℕ c d ≡ sub_ℕ (y + c) (y + suc x + d)
add_lt x y c d =
    by_order c d
    (λ h. ap (λ (z : ℤ). negsuc x +ℤ z) (sub_lt c d h) ∙ ap negsuc (omega arith) ∙ sym (sub_lt (y + c) (y + suc x + d) (omega arith)))
    (λ h. ap (λ (z : ℤ). negsuc x +ℤ z) (sub_le c d h) ∙ sub_same (c - d) (suc x) (y + c) (y + suc x + d) (omega arith))

add_le : (x y c d : ℕ) → pos x +ℤ sub_ℕ c d ≡ sub_ℕ (y + x + c) (y + d)
add_le x y c d =
    by_order c d
    (λ h. ap (λ (z : ℤ). pos x +ℤ z) (sub_lt c d h) ∙ sub_same x (suc (d - suc c)) (y + x + c) (y + d) (omega arith))
    (λ h. ap (λ (z : ℤ). pos x +ℤ z) (sub_le c d h) ∙ ap pos (omega arith) ∙ sym (sub_le (y + x + c) (y + d) (omega arith)))

pub sub_add : (a b c d : ℕ) → sub_ℕ a b +ℤ sub_ℕ c d ≡ sub_ℕ (a + c) (b + d)
sub_add a b c d =
    by_order a b
    (λ h. ap (λ (z : ℤ). z +ℤ sub_ℕ c d) (sub_lt a b h) ∙ add_lt (b - suc a) a c d ∙ sub_same (a + c) (a + suc (b - suc a) + d) (a + c) (b + d) (omega arith))
    (λ h. ap (λ (z : ℤ). z +ℤ sub_ℕ c d) (sub_le a b h) ∙ add_le (a - b) b c d ∙ sub_same (b + (a - b) + c) (b + d) (a + c) (b + d) (omega arith))

pub sub_sub : (a b c d : ℕ) → sub_ℕ a b -ℤ sub_ℕ c d ≡ sub_ℕ (a + d) (b + c)
sub_sub a b c d = ap (λ (z : ℤ). sub_ℕ a b +ℤ z) (sub_neg c d) ∙ sub_add a b d c

-- a − b + s
pub sub_source : (a b : ℕ) (s : ℤ) → pos a -ℤ pos b +ℤ s ≡ sub_ℕ (a + positive_part s) (b + negative_part s)
sub_source a b s = ap₂ (λ (x y : ℤ). x +ℤ y) (sub_pos a b) (sub_parts s) ∙ sub_add a b (positive_part s) (negative_part s)

-- multiples
pub mul_sub : (k a b : ℕ) → pos k *ℤ sub_ℕ a b ≡ sub_ℕ (k * a) (k * b)
mul_sub k a b =
    by_order a b
    (λ h.
    ap (λ (z : ℤ). pos k *ℤ z) (sub_lt a b h)
    ∙ neg_pos (k * suc (b - suc a))
    ∙ sub_same 0 (k * suc (b - suc a)) (k * a) (k * b) (omega (arith, grows a b (omega arith), ap (λ t. k * t) (suc_diff a b h))))
    (λ h.
    ap (λ (z : ℤ). pos k *ℤ z) (sub_le a b h)
    ∙ ap pos (omega (arith, grows b a h))
    ∙ sym (sub_le (k * a) (k * b) (mul-le-mul_left k h)))
  where
    suc_diff : (a b : ℕ) → a < b → suc (b - suc a) ≡ b - a
    suc_diff a b h = omega arith

    grows : (a b : ℕ) → a ≤ b → k * a + k * (b - a) ≡ k * b
    grows a b h = omega (arith, ap (λ t. k * t) (joined a b h))
      where
        joined : (a b : ℕ) → a ≤ b → a + (b - a) ≡ b
        joined a b h = omega arith

-- tests by sign
pub negative_sub : (a b : ℕ) → negative (sub_ℕ a b) ≡ ltb a b
negative_sub a b =
    by_order a b
    (λ h. ap negative (sub_lt a b h) ∙ sym (lt-ltb a b h))
    (λ h. ap negative (sub_le a b h) ∙ sym (le-ltb a b h))

pub at_most_zero_sub : (a b : ℕ) → at_most_zero (sub_ℕ a b) ≡ leb a b
at_most_zero_sub a b =
    by_order a b
    (λ h. ap at_most_zero (sub_lt a b h) ∙ sym (le-leb a b (omega arith)))
    (λ h. ap at_most_zero (sub_le a b h) ∙ go (a - b) refl h)
  where
    go : (d : ℕ) → a - b ≡ d → b ≤ a → at_most_zero (pos d) ≡ leb a b
    go zero e h = sym (le-leb a b (omega arith))
    go (suc d) e h = sym (lt-leb a b (omega arith))
