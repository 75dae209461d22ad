-- Lists by index, and what holds of the numbers below n.
use Rattle.std.specs.Prelude.{Bool, true, false, cond, List, [], ◌∷◌, ℕ, zero, suc, ◌+◌, max, ltb}

-- g 0, g 1, .., n of them
abbrev pub tabulate : {A : Type 0} → ℕ → (ℕ → A) → List A
tabulate zero g = []
tabulate (suc n) g = g 0 ∷ tabulate n (λ i. g (suc i))

-- k, if it is below n; else n or the next, by whether n passes
abbrev pub first_or_next : ℕ → ℕ → Bool → ℕ
first_or_next k n passes = cond (ltb k n) k (cond passes n (suc n))

-- the least number below n that passes the test, or n where there is none
unfoldable pub first_of : (ℕ → Bool) → ℕ → ℕ
first_of test zero = 0
first_of test (suc n) = first_or_next (first_of test n) n (test n)

-- how many numbers below n pass the test
abbrev pub count_below : (ℕ → Bool) → ℕ → ℕ
count_below test zero = 0
count_below test (suc n) = count_below test n + cond (test n) 1 0

-- all of them do
abbrev pub all_below : (ℕ → Bool) → ℕ → Bool
all_below test zero = true
all_below test (suc n) = cond (test n) (all_below test n) false

-- the greatest of g 0, g 1, .., n of them; 0 where there is none
abbrev pub greatest : (ℕ → ℕ) → ℕ → ℕ
greatest g zero = 0
greatest g (suc n) = max (greatest g n) (g n)
