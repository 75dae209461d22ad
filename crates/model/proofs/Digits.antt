-- Numbers in decimal, step by step, and the lengths of numbers and of lines.
use mathlib.Core.Path.{◌≡◌, sym, ap, ◌∙◌}
use mathlib.Core.Bool.{cond}
use mathlib.Core.List.{List, [], ◌∷◌, ◌++◌}
use Prim.Native.Nat.{ℕ, zero, suc, ◌+◌, ◌-◌, ◌/◌, ◌%◌, ◌^◌, ◌≤◌, ◌<◌}
use native.Mathlib.Nat.{le_refl, pow-suc, div-lt_iff_lt-mul}
use native.Mathlib.Omega.{arith}
use borrow.Author.Tests.{lt-ltb, le-ltb}
use lib.Dec.{ltb}
use lib.IntN.{sub_ℕ}
use lib.ListN.{length, length-append}
use Rattle.model.specs.Report.{decimal_digits, decimal, signed, ◌␣◌, line}
use Rattle.model.proofs.Integers.{sub_lt, sub_le, by_order}

-- one digit, and one digit after others
digits_one : (most n : ℕ) → n < 10 → decimal_digits (suc most) n ≡ (48 + n) ∷ []
unfolding decimal_digits
digits_one most n h = rw (lt-ltb n 10 h)

digits_more : (most n : ℕ) → 10 ≤ n → decimal_digits (suc most) n ≡ decimal_digits most (n / 10) ++ (48 + n % 10) ∷ []
unfolding decimal_digits
digits_more most n h = rw (le-ltb n 10 h)

-- a number without its last digit
tenth : (k n : ℕ) → n < 10 ^ suc k → n / 10 < 10 ^ k
tenth k n h = (div-lt_iff_lt-mul {k = 10} {x = n} {y = 10 ^ k} (omega arith)).1 (omega (arith, pow-suc 10 k))

-- once there is room for all digits, more room changes nothing
digits_room : (k n : ℕ) → n < 10 ^ suc k → decimal_digits (suc k) n ≡ decimal_digits (suc (suc k)) n
digits_room zero n h = digits_one 0 n (omega arith) ∙ sym (digits_one 1 n (omega arith))
digits_room (suc k) n h =
    let shorter = digits_room k (n / 10) (tenth (suc k) n h) in
    by_order n 10
    (λ l. digits_one (suc k) n l ∙ sym (digits_one (suc (suc k)) n l))
    (λ l. digits_more (suc k) n l ∙ ap (λ (t : List ℕ). t ++ (48 + n % 10) ∷ []) shorter ∙ sym (digits_more (suc (suc k)) n l))

-- the definition's step, for every number of 64 bits
pub decimal_one : (n : ℕ) → n < 10 → decimal n ≡ (48 + n) ∷ []
decimal_one n h = digits_one 19 n h

pub decimal_more : (n : ℕ) → 10 ≤ n → n < 2 ^ 64 → decimal n ≡ decimal (n / 10) ++ (48 + n % 10) ∷ []
decimal_more n h l =
    digits_more 19 n h ∙ ap (λ (t : List ℕ). t ++ (48 + n % 10) ∷ []) (digits_room 18 (n / 10) (omega arith))

-- ---- lengths of numbers

-- as many digits at most as there is room for
digits_most : (most n : ℕ) → length (decimal_digits most n) ≤ most
unfolding decimal_digits
digits_most zero n = le_refl 0
digits_most (suc most) n =
    by_order n 10
    (λ l. rw (digits_one most n l) (omega arith))
    (λ l. rw (digits_more most n l) (omega (arith, length-append (decimal_digits most (n / 10)) ((48 + n % 10) ∷ []), digits_most most (n / 10))))

-- a number below 10 ^ j has at most j digits
digits_length : (most j n : ℕ) → n < 10 ^ suc j → length (decimal_digits most n) ≤ suc j
unfolding decimal_digits
digits_length zero j n h = omega arith
digits_length (suc most) zero n h = rw (digits_one most n (omega arith)) (le_refl 1)
digits_length (suc most) (suc j) n h =
    let shorter = digits_length most j (n / 10) (tenth (suc j) n h) in
    by_order n 10
    (λ l. rw (digits_one most n l) (omega arith))
    (λ l. rw (digits_more most n l) (omega (arith, length-append (decimal_digits most (n / 10)) ((48 + n % 10) ∷ []))))

-- in decimal
pub decimal_most : (n : ℕ) → length (decimal n) ≤ 20
decimal_most n = digits_most 20 n

pub decimal_length : (j n : ℕ) → n < 10 ^ suc j → length (decimal n) ≤ suc j
decimal_length j n h = digits_length 20 j n h

-- how many digits a row or column has
abbrev pub width : ℕ → ℕ
width n = cond (ltb n 10) 1 2

-- at most 2, and enough below 100
pub width_most : (n : ℕ) → width n ≤ 2
width_most n = by_order n 10 (λ l. rw (lt-ltb n 10 l) (omega arith)) (λ l. rw (le-ltb n 10 l) (omega arith))

pub decimal_width : (n : ℕ) → n < 100 → length (decimal n) ≤ width n
decimal_width n h =
    by_order n 10
    (λ l. rw (lt-ltb n 10 l) (decimal_length 0 n l))
    (λ l. rw (le-ltb n 10 l) (decimal_length 1 n h))

-- a difference of numbers below 10 ^ 16 has at most 16 digits and a sign
pub signed_length : (a b : ℕ) → a < 10 ^ 16 → b < 10 ^ 16 → length (signed (sub_ℕ a b)) ≤ 17
signed_length a b h k =
    by_order a b
    (λ l. rw (sub_lt a b l) (omega (arith, decimal_length 15 (suc (b - suc a)) (omega arith))))
    (λ l. rw (sub_le a b l) (omega (arith, decimal_length 15 (a - b) (omega arith))))

-- ---- lengths of lines

-- the line's end, and a space
line_length : (a : List ℕ) → length (line a) ≡ length a + 1
line_length a = length-append a _

space_length : (a b : List ℕ) → length (a ␣ b) ≡ length a + length b + 1
space_length a b = omega (arith, length-append a (32 ∷ []), length-append (a ++ (32 ∷ [])) b)

-- two, three and five words
pub two_words : (a b : List ℕ) → length (line (a ␣ b)) ≡ length a + length b + 2
two_words a b = omega (arith, line_length (a ␣ b), space_length a b)

pub three_words : (a b c : List ℕ) → length (line (a ␣ b ␣ c)) ≡ length a + length b + length c + 3
three_words a b c = omega (arith, line_length (a ␣ b ␣ c), space_length a (b ␣ c), space_length b c)

pub five_words : (a b c d e : List ℕ) → length (line (a ␣ b ␣ c ␣ d ␣ e)) ≡ length a + length b + length c + length d + length e + 5
five_words a b c d e = omega (arith, three_words a b (c ␣ d ␣ e), space_length c (d ␣ e), space_length d e)

-- four words, two of them a cell's row and column
pub placed_words : (a b c d : List ℕ) → length (line ((a ␣ b) ␣ c ␣ d)) ≡ length a + length b + length c + length d + 4
placed_words a b c d = omega (arith, three_words (a ␣ b) c d, space_length a b)

pub word_placed : (w a b c : List ℕ) → length (line (w ␣ (a ␣ b) ␣ c)) ≡ length w + length a + length b + length c + 4
word_placed w a b c = omega (arith, three_words w (a ␣ b) c, space_length a b)
