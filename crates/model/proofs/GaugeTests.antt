-- The tests of a gauged film's numbers, one by one: what passing says of shape, wedge number and steps, and that whether a test passes does not depend on the
-- place that it names.
use Rattle.std.specs.Prelude.{Option, Some, None}
use mathlib.Core.Path.{◌≡◌, refl}
use mathlib.Core.Bool.{Bool, true}
use Prim.Native.Nat.{ℕ, ◌+◌, ◌≤◌}
use native.Mathlib.Omega.{arith}
use borrow.Author.Tests.{ltb-false}
use lib.Dec.{ltb}
use lib.IntN.{ℤ, nat_abs}
use Rattle.model.specs.Limits.{thickness_limit, wedge_limit, step_limit}
use Rattle.model.specs.Lists.{first_of}
use Rattle.model.specs.Refusals.{pass, fail_if}
use Rattle.model.specs.Gauge.{Gauge, factors_of, Stepped}
use Rattle.model.specs.Checks.{outside, shape_check, ceiling_check}
use Rattle.model.specs.File.{cells, ringed, thicknesses_from, wedge_check, steps_check, rows_offset, columns_offset, ceiling_offset, wedge_offset, steps_offset, gauge_dominance, weights_check, thicknesses_check, gauge_check}
use Rattle.model.proofs.Checks.{within, or_else_parts, pass_both, fail_if_pass}
use Rattle.model.proofs.Opening.{Shaped, shape_passes}
use Rattle.model.specs.declared.Factors.{Factors}

-- the number of a film's cells, and of its thicknesses
abbrev pub cells_of : Gauge → ℕ
cells_of g = cells g.rows g.columns

abbrev pub ring_of : Gauge → ℕ
ring_of g = ringed g.rows g.columns

-- where the tests of a film's numbers have passed, all but those of its weights; and those too
pub record NumbersPassed (g : Gauge) : Type 0 where
  pub shape : shape_check g.rows rows_offset g.columns columns_offset ≡ pass
  pub ceiling : ceiling_check g.ceiling ceiling_offset ≡ pass
  pub thicknesses : thicknesses_check g.thicknesses (cells_of g) (ring_of g) ≡ pass
  pub wedge : wedge_check g.wedge (wedge_offset (cells_of g) (ring_of g)) ≡ pass
  pub steps : steps_check g.steps (steps_offset (cells_of g) (ring_of g)) ≡ pass

pub record GaugePassed (g : Gauge) : Type 0 where
  pub numbers : NumbersPassed g
  pub weights : weights_check g.weights (cells_of g) ≡ pass
  pub dominant : gauge_dominance g ≡ pass

pub gauge_passes : (g : Gauge) → gauge_check g true ≡ pass → GaugePassed g
unfolding gauge_check
gauge_passes g e =
    let a = or_else_parts (shape_check g.rows rows_offset g.columns columns_offset) _ e in
    let b = or_else_parts (ceiling_check g.ceiling ceiling_offset) _ a.1 in
    let c = or_else_parts (weights_check g.weights (cells_of g)) _ b.1 in
    let d = or_else_parts (thicknesses_check g.thicknesses (cells_of g) (ring_of g)) _ c.1 in
    let w = or_else_parts (wedge_check g.wedge (wedge_offset (cells_of g) (ring_of g))) _ d.1 in
    let s = or_else_parts (steps_check g.steps (steps_offset (cells_of g) (ring_of g))) _ w.1 in
    record {
      numbers = record { shape = a.0; ceiling = b.0; thicknesses = d.0; wedge = w.0; steps = s.0 };
      weights = c.0;
      dominant = s.1;
    }

-- and back
pub gauge_tests : (g : Gauge) → GaugePassed g → gauge_check g true ≡ pass
unfolding gauge_check
gauge_tests g p =
    let n = p.numbers in
    pass_both n.shape (pass_both n.ceiling (pass_both p.weights
    (pass_both n.thicknesses (pass_both n.wedge (pass_both n.steps p.dominant)))))

-- what the tests of the shape, of the wedge number and of the steps say

pub gauge_shape : (g : Gauge) → shape_check g.rows rows_offset g.columns columns_offset ≡ pass → Shaped g.rows g.columns
gauge_shape g e = shape_passes g.rows g.columns rows_offset columns_offset e

pub wedge_low : {g : Gauge} → NumbersPassed g → nat_abs g.wedge ≤ wedge_limit
wedge_low p = ltb-false _ _ (fail_if_pass _ 8 _ p.wedge)

pub stepped : (s : Option Factors) (at : ℕ) → steps_check s at ≡ pass → Stepped (factors_of s)
stepped None at e = record { along_some = omega arith; along_low = omega arith; across_some = omega arith; across_low = omega arith }
stepped (Some f) at e =
    let a = or_else_parts (fail_if (outside f.along 1 step_limit) 15 at) _ e in
    let along = within f.along 1 step_limit (fail_if_pass _ 15 at a.0) in
    let across = within f.across 1 step_limit (fail_if_pass _ 15 (at + 1) a.1) in
    record { along_some = along.0; along_low = along.1; across_some = across.0; across_low = across.1 }

-- ---- whatever its place, a test that passes passes

if_anywhere : (bad : Bool) (number place other : ℕ) → fail_if bad number place ≡ pass → fail_if bad number other ≡ pass
if_anywhere bad number place other e = rw (fail_if_pass bad number place e)

pub thicknesses_anywhere : (thickness : ℕ → ℕ) (n at other : ℕ) → thicknesses_from thickness n at ≡ pass → thicknesses_from thickness n other ≡ pass
thicknesses_anywhere thickness n at other e =
    let first = first_of (λ j. outside (thickness j) 1 thickness_limit) n in
    if_anywhere (ltb first n) 7 (at + first) (other + first) e

pub wedge_anywhere : (wedge : ℤ) (at other : ℕ) → wedge_check wedge at ≡ pass → wedge_check wedge other ≡ pass
wedge_anywhere wedge at other e = if_anywhere (ltb wedge_limit (nat_abs wedge)) 8 at other e

pub steps_anywhere : (s : Option Factors) (at other : ℕ) → steps_check s at ≡ pass → steps_check s other ≡ pass
steps_anywhere None at other e = refl
steps_anywhere (Some f) at other e =
    let a = or_else_parts (fail_if (outside f.along 1 step_limit) 15 at) _ e in
    pass_both (if_anywhere (outside f.along 1 step_limit) 15 at other a.0) (if_anywhere (outside f.across 1 step_limit) 15 (at + 1) (other + 1) a.1)
