-- Orderings: the cell at each place of a round of relaxations.
use Rattle.std.specs.Prelude.{◌≡◌, Bool, not, cond, List, [], ◌∷◌, ◌++◌, ℕ, zero, suc, ◌<◌, get_or}

-- an ordering of n cells names every cell once
pub record Permutes (n : ℕ) (order : ℕ → ℕ) : Type 0 where
  pub cell : (k : ℕ) → k < n → order k < n
  pub every : (i : ℕ) → i < n → (k : ℕ) × (k < n) × (order k ≡ i)
  pub once : (j k : ℕ) → j < n → k < n → order j ≡ order k → j ≡ k

-- the numbers below n that pass the test, by size
abbrev pub picks : (ℕ → Bool) → ℕ → List ℕ
picks test zero = []
picks test (suc n) = cond (test n) (picks test n ++ n ∷ []) (picks test n)

-- first the cells that pass the test, by index, then the others, by index
abbrev pub split_order : (ℕ → Bool) → ℕ → ℕ → ℕ
split_order test n k = get_or (picks test n ++ picks (λ i. not (test i)) n) k 0
