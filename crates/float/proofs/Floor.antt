-- The whole number that a cast of a float makes is its floor.
use mathlib.Core.Path.{◌≡◌, refl}
use mathlib.Core.Bool.{true, false, and-eq-true_iff}
use Prim.Native.Nat.{◌*◌, ◌≤◌}
use native.Mathlib.Nat.{div-eq_of_lt}
use native.Mathlib.Omega.{arith}
use borrow.Author.Tests.{eqb-true}
use lib.Dec.{T, eqb}
use lib.Ieee.{Float, nan, inf, fin, up, down, le, of_int, to_unsigned}
use lib.Ieee.Fits.{down_pos}
use lib.Ieee.Scale.{finite}
use Rattle.model.specs.Limits.{estimate_limit}
use Rattle.model.specs.Estimate.{float_of, floor_of}

pub cast_floor : (x : Float) → le (float_of 0) x ≡ true → T (finite x) → floor_of x ≤ estimate_limit → to_unsigned 32 x ≡ floor_of x
unfolding le of_int floor_of to_unsigned
cast_floor nan z f l = refl
cast_floor (inf s) z f l = absurd f
cast_floor (fin true m e) z f l =
    let t = (and-eq-true_iff (eqb (0 * down e) (m * up e * 1)) (eqb (0 * down e) 0)).0 z in
    let zero : m * up e ≡ 0 = omega (arith, eqb-true (0 * down e) (m * up e * 1) t.0, eqb-true (0 * down e) 0 t.1) in
    rw (zero, div-eq_of_lt (down_pos e))
cast_floor (fin false m e) z f l = omega arith
