-- How many thicknesses there are, the ring's too.
use Prim.Native.Nat.{ℕ, ◌+◌, ◌*◌, ◌≤◌}
use native.Mathlib.Nat.{mul-le-mul}
use native.Mathlib.Omega.{arith}
use Rattle.model.specs.Limits.{side_limit}

-- at most 1,156 thicknesses
pub ring_low : (R C : ℕ) → R ≤ side_limit → C ≤ side_limit → (R + 2) * (C + 2) ≤ 1156
ring_low R C h k = mul-le-mul {n₁ = R + 2} {m₁ = C + 2} {n₂ = 34} {m₂ = 34} (omega arith) (omega arith)
