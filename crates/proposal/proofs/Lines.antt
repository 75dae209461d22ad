-- A line of the grid is inside it.
use mathlib.Core.Path.{◌≡◌, ap}
use Prim.Native.Nat.{ℕ, zero, suc, ◌+◌, ◌-◌, ◌*◌, ◌≤◌}
use native.Mathlib.Nat.{mul-le-mul_right, suc-mul}
use native.Mathlib.Omega.{arith}

pub row_inside : (line rows columns : ℕ) → 1 ≤ line → line ≤ rows → (line - 1) * columns + columns ≤ rows * columns
row_inside zero rows columns h l = absurd (omega arith)
row_inside (suc k) rows columns h l =
    let one : suc k - 1 ≡ k = omega arith in
    omega (arith, mul-le-mul_right columns l, suc-mul k columns, ap (λ (m : ℕ). m * columns) one)
