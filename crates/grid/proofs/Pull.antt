-- Link × number of the cells before and after a cell: by cases, and that it is small.
use mathlib.Core.Path.{◌≡◌, ap, ◌∙◌}
use mathlib.Core.List.{List}
use Prim.Native.Nat.{ℕ, ◌+◌, ◌-◌, ◌*◌, ◌≤◌, ◌<◌, ◌^◌}
use native.Mathlib.Nat.{mul-le-mul, mul-zero}
use native.Mathlib.Omega.{arith}
use borrow.Author.Tests.{lt-ltb, le-ltb}
use lib.ListN.{length, get_or, get_or-eq_default}
use Rattle.grid.specs.Pull.{back_of, ahead_of}

module _ (links numbers : List ℕ) (i k : ℕ) where
  pub back_none : i < k → back_of links numbers i k ≡ 0
  unfolding back_of
  back_none h = rw (lt-ltb i k h)

  pub back_some : k ≤ i → back_of links numbers i k ≡ get_or links (i - k) 0 * get_or numbers (i - k) 0
  unfolding back_of
  back_some h = rw (le-ltb i k h)

  pub ahead_none : length numbers ≤ i + k → ahead_of links numbers i k ≡ 0
  unfolding ahead_of
  ahead_none h = ap (λ (n : ℕ). get_or links i 0 * n) (get_or-eq_default numbers 0 h) ∙ mul-zero (get_or links i 0)

pub product_small : (a b : ℕ) → a ≤ 2 ^ 26 → b < 2 ^ 32 → a * b ≤ 2 ^ 58
product_small a b h l = let m : a * b ≤ 2 ^ 26 * 2 ^ 32 = mul-le-mul {m₁ = b} {m₂ = 2 ^ 32} h (omega arith) in omega arith
