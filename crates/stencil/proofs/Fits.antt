-- A cell's links fit their types.
use Prim.Native.Nat.{ℕ, ◌+◌, ◌*◌, ◌≤◌, ◌<◌}
use native.Mathlib.Nat.{mul-le-mul}
use native.Mathlib.Omega.{arith}
use Rattle.model.specs.Limits.{step_limit}
use Rattle.model.specs.Coefficients.{link_of}

-- of thicknesses of 8 bits: the cube of the sum of two, and that times a factor
module _ (a b : ℕ) (h : a < 256) (k : b < 256) where
  sum_low : a + b ≤ 510
  sum_low = omega arith

  pub square_low : (a + b) * (a + b) ≤ 510 * 510
  square_low = mul-le-mul sum_low sum_low

  pub cube_low : (a + b) * (a + b) * (a + b) ≤ 510 * 510 * 510
  cube_low = mul-le-mul square_low sum_low

  pub link_low : (f : ℕ) → f ≤ step_limit → link_of f a b ≤ step_limit * (510 * 510 * 510)
  link_low f l = mul-le-mul l cube_low
