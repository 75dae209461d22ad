-- Document 01, "A line offer": "The whole part of a float equals the greatest whole number not above it."
use mathlib.Core.Path.{◌≡◌, sym, ap, ◌∙◌}
use mathlib.Core.Logic.{◌↔◌}
use mathlib.Core.Bool.{Bool, true, false, ◌&&◌, ◌||◌, false≢true, true≢false, and-eq-true_iff}
use Prim.Native.Nat.{ℕ, ◌*◌, ◌/◌, ◌^◌, ◌≤◌, ◌<◌}
use native.Mathlib.Nat.{mul_right_comm, zero-mul, mul-le-mul_right, mul-lt-mul_of_pos_right, le_of_mul-le-mul_right}
use native.Mathlib.Nat.{add-mul, le_of_suc-le-suc, le-div_iff_mul-le, div-lt_iff_lt-mul}
use native.Mathlib.Omega.{arith}
use borrow.Author.Tests.{lt-ltb, le-ltb, le-leb, lt-leb, leb-true, eqb-true, eq-eqb, ne_eqb}
use lib.Dec.{T, leb, ltb, eqb, lit≤}
use lib.IntN.{ℤ}
use lib.Ieee.{Float, nan, inf, fin, binary64, up, down, le, of_int}
use lib.Ieee.Exact.{HasValue}
use lib.Ieee.Back.{round_whole}
use lib.Ieee.Fits.{down_pos}
use lib.Ieee.Scale.{finite}
use Rattle.model.specs.Limits.{estimate_limit}
use Rattle.model.specs.Estimate.{float_of, floor_of, value, whole_part}
use Rattle.model.proofs.Integers.{by_order}

-- The float m × 2 ^ e is the fraction m × up e / down e. Its floor is the greatest whole number n that is not above it.
pub floor_greatest : (m : ℕ) (e : ℤ) (n : ℕ) → (n * down e ≤ m * up e) ↔ (n ≤ floor_of (fin false m e))
unfolding floor_of
floor_greatest m e n = ((le-div_iff_mul-le (down_pos e)).1, (le-div_iff_mul-le (down_pos e)).0)

-- up to 2 ^ 53 every whole number is a float exactly
whole_value : (n : ℕ) → n ≤ 2 ^ 53 → HasValue (float_of n) false n 1
unfolding of_int
whole_value n h = round_whole binary64 false n h

-- a ≤ b, and a ≤ −b where b is 0, as the order of floats tests them
at_most : (a b : ℕ) → (ltb a b || (eqb a b && true)) ≡ leb a b
at_most a b =
    by_order a b
    (λ h. rw (lt-ltb a b h, le-leb a b (omega arith)))
    (λ h.
    by_order b a
    (λ l. rw (le-ltb a b h, ne_eqb a b (λ e. omega arith), lt-leb a b l))
    (λ l. rw (le-ltb a b h, eq-eqb a b (omega arith), le-leb a b l)))

at_most_zero_lem : (a b : ℕ) → b ≡ 0 → (eqb a b && eqb a 0) ≡ leb a b
at_most_zero_lem a b e =
    by_order b a
    (λ h. rw (ne_eqb a b (λ e. omega arith), lt-leb a b h))
    (λ h. rw (eq-eqb a b (omega arith), eq-eqb a 0 (omega arith), le-leb a b h))

is_zero : (a b : ℕ) → (eqb a b && eqb a 0) ≡ true → b ≡ 0
is_zero a b e =
    let t = (and-eq-true_iff (eqb a b) (eqb a 0)).0 e in
    sym (eqb-true a b t.0) ∙ eqb-true a 0 t.1

-- a float with a minus sign that is at least 0 is −0
minus_zero : (m : ℕ) (e : ℤ) → le (float_of 0) (fin true m e) ≡ true → m * up e ≡ 0
unfolding le of_int
minus_zero m e z = omega (arith, is_zero (0 * down e) (m * up e * 1) z)

-- n against the whole part of m / d, by multiplication
scaled : (n m d k : ℕ) → 0 < d → 0 < k → leb (n * k * d) (m * k) ≡ leb n (m / d)
scaled n m d k D K =
    by_order (m / d) n
    (λ h.
    let l : m * k < n * d * k = mul-lt-mul_of_pos_right ((div-lt_iff_lt-mul D).0 h) K in
    lt-leb (n * k * d) (m * k) (omega (arith, mul_right_comm n k d)) ∙ sym (lt-leb n (m / d) h))
    (λ h.
    let l : n * d * k ≤ m * k = mul-le-mul_right k ((le-div_iff_mul-le D).0 h) in
    le-leb (n * k * d) (m * k) (omega (arith, mul_right_comm n k d)) ∙ sym (le-leb n (m / d) h))

-- p × 2 ^ d against a float that is at least 0: by multiplication, also where the float is −0
le_cross : (p : ℕ) (d : ℤ) (s : Bool) (m : ℕ) (e : ℤ) → le (float_of 0) (fin s m e) ≡ true
    → le (fin false p d) (fin s m e) ≡ leb (p * up d * down e) (m * up e * down d)
unfolding le
le_cross p d false m e z = at_most (p * up d * down e) (m * up e * down d)
le_cross p d true m e z =
    at_most_zero_lem (p * up d * down e) (m * up e * down d) (ap (λ t. t * down d) (minus_zero m e z) ∙ zero-mul (down d))

-- a float w that is the whole number n, against a float that is at least 0
at_floor : (w x : Float) (n : ℕ) → HasValue w false n 1 → T (finite x) → le (float_of 0) x ≡ true → le w x ≡ leb n (floor_of x)
unfolding floor_of
at_floor nan x n v f z = absurd v
at_floor (inf s) x n v f z = absurd v
at_floor (fin true p d) x n v f z = absurd (true≢false v.0)
at_floor (fin false p d) nan n v f z = absurd f
at_floor (fin false p d) (inf s) n v f z = absurd f
at_floor (fin false p d) (fin s m e) n v f z =
    le_cross p d s m e z
    ∙ ap (λ t. leb (t * down e) (m * up e * down d)) (omega (arith, v.1))
    ∙ scaled n (m * up e) (down e) (down d) (down_pos e) (down_pos d)

quotient : (m d k : ℕ) → 0 < d → m ≤ k * d → m / d ≤ k
quotient m d k D h = le_of_suc-le-suc ((div-lt_iff_lt-mul D).1 (omega (arith, add-mul k 1 d)))

-- m / e ≤ a / d = k, as the order of floats tests it
bounded : (m e a d k : ℕ) → 0 < e → 0 < d → a * 1 ≡ k * d
    → (ltb (m * d) (a * e) || (eqb (m * d) (a * e) && true)) ≡ true → m / e ≤ k
bounded m e a d k E D v h =
    let l : m * d ≤ a * e = leb-true (m * d) (a * e) (sym (at_most (m * d) (a * e)) ∙ h) in
    let s : a * e ≡ k * d * e = ap (λ t. t * e) (omega arith) in
    quotient m e k E (le_of_mul-le-mul_right (omega (arith, mul_right_comm k d e)) D)

below : (w x : Float) (k : ℕ) → HasValue w false k 1 → le (float_of 0) x ≡ true → le x w ≡ true → T (finite x) × (floor_of x ≤ k)
unfolding le floor_of of_int
below nan x k v z h = absurd v
below (inf s) x k v z h = absurd v
below (fin true p d) x k v z h = absurd (true≢false v.0)
below (fin false p d) nan k v z h = absurd (false≢true h)
below (fin false p d) (inf true) k v z h = absurd (false≢true z)
below (fin false p d) (inf false) k v z h = absurd (false≢true h)
below (fin false p d) (fin true m e) k v z h =
    (tt, quotient (m * up e) (down e) k (down_pos e) (omega (arith, minus_zero m e z)))
below (fin false p d) (fin false m e) k v z h =
    (tt, bounded (m * up e) (down e) (p * up d) (down d) k (down_pos e) (down_pos d) v.1 h)

-- The test by which a program searches for the floor of x: in the order of floats n is at most x exactly where n is at most the floor.
pub floor_test : (n : ℕ) (x : Float) → n ≤ 2 ^ 53 → T (finite x) → le (float_of 0) x ≡ true → le (float_of n) x ≡ leb n (floor_of x)
floor_test n x h f z = at_floor (float_of n) x n (whole_value n h) f z

pub floor_order : (n : ℕ) (x : Float) → n ≤ 2 ^ 53 → T (finite x) → le (float_of 0) x ≡ true → (le (float_of n) x ≡ true) ↔ (n ≤ floor_of x)
floor_order n x h f z =
    let t = floor_test n x h f z in
    (λ a. leb-true n (floor_of x) (sym t ∙ a), λ b. t ∙ le-leb n (floor_of x) b)

-- A float from 0 to k is no infinity and no NaN, and its floor is at most k.
pub floor_below : (k : ℕ) (x : Float) → k ≤ 2 ^ 53 → le (float_of 0) x ≡ true → le x (float_of k) ≡ true → T (finite x) × (floor_of x ≤ k)
floor_below k x h z b = below (float_of k) x k (whole_value k h) z b

-- Where document 01 takes the whole part, it is the greatest whole number not above the float.
pub whole_part_greatest : (n : ℕ) (x : Float) → n ≤ 2 ^ 53 → le (float_of 0) x ≡ true → le x (float_of estimate_limit) ≡ true
    → (le (float_of n) x ≡ true) ↔ (n ≤ whole_part (value x))
unfolding whole_part
whole_part_greatest n x h z b = rw (z, b) (floor_order n x h (floor_below estimate_limit x (lit≤ tt) z b).0 z)
