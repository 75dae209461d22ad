-- What passed tests say of a film's numbers, part by part.
use mathlib.Core.Path.{◌≡◌, ◌∙◌}
use mathlib.Core.Bool.{Bool, true, not, ◌&&◌}
use Prim.Native.Nat.{◌≤◌}
use native.Mathlib.Omega.{arith}
use borrow.Author.Tests.{eqb-true, not-false}
use lib.ListN.{length}
use Rattle.model.specs.Gauge.{Gauge, factors_of, Stepped}
use Rattle.model.specs.Refusals.{Check, pass, fail_if, ◌or_else◌}
use Rattle.model.specs.Checks.{shape_check, ceiling_check}
use Rattle.model.specs.File.{cells, ringed, rows_offset, columns_offset, ceiling_offset, wedge_offset, weights_check, thicknesses_check, wedge_check, gauge_dominance, gauge_check}
use Rattle.model.specs.FileCalls.{gauge_fits}
use Rattle.model.proofs.Checks.{and_parts, or_else_assoc, or_else_parts, fail_if_pass}
use Rattle.model.proofs.Sides.{cells_low}
use Rattle.model.proofs.File.{gauge_shape, stepped}
use Rattle.forming.specs.Cell.{Ringed}
use Rattle.gauge.specs.Tests.{numbers_check, sized_check, Measured}
use Rattle.forming.proofs.Cell.{ring_low}

module _ {g : Gauge} (m : Measured g) where
  pub measured_ringed : Ringed g
  measured_ringed =
      let s = gauge_shape g m.shape in
      record {
        rows_some = s.rows_some;
        rows_low = s.rows_low;
        columns_some = s.columns_some;
        columns_low = s.columns_low;
        thicknesses_len = m.thicknesses_len;
      }

  -- at most 1,024 weights and 1,156 thicknesses
  pub weights_low : length g.weights ≤ 1024
  weights_low =
      let s = gauge_shape g m.shape in
      omega (arith, m.weights_len, cells_low g.rows g.columns s.rows_low s.columns_low)

  pub thicknesses_low : length g.thicknesses ≤ 1156
  thicknesses_low =
      let s = gauge_shape g m.shape in
      omega (arith, m.thicknesses_len, ring_low g.rows g.columns s.rows_low s.columns_low)

-- the lengths, where the shape has passed and refusal 10 is not found
pub lengths_pass : (g : Gauge) (fits : Bool) → shape_check g.rows rows_offset g.columns columns_offset ≡ pass → (gauge_fits g && fits) ≡ true
    → Measured g
lengths_pass g fits e f =
    let both = and_parts (gauge_fits g) fits f in
    let lengths = and_parts _ _ both.0 in
    record { shape = e; weights_len = eqb-true _ _ lengths.0; thicknesses_len = eqb-true _ _ lengths.1 }

-- steps that have passed
pub numbers_stepped : (g : Gauge) → numbers_check g ≡ pass → Stepped (factors_of g.steps)
numbers_stepped g e =
    let a = or_else_parts (ceiling_check g.ceiling ceiling_offset) _ e in
    let b = or_else_parts (weights_check g.weights (cells g.rows g.columns)) _ a.1 in
    let c = or_else_parts (thicknesses_check g.thicknesses (cells g.rows g.columns) (ringed g.rows g.columns)) _ b.1 in
    let d = or_else_parts (wedge_check g.wedge (wedge_offset (cells g.rows g.columns) (ringed g.rows g.columns))) _ c.1 in
    stepped g.steps _ d.1

-- the code's tests, of a film that it has under another name
pub shape_is : {f g : Gauge} {r : Check} → g ≡ f → r ≡ shape_check g.rows rows_offset g.columns columns_offset
    → r ≡ shape_check f.rows rows_offset f.columns columns_offset
shape_is e h = rw e at h

pub lengths_are : (g : Gauge) (fits : Bool) {fit : Bool} {r : Check} → fit ≡ gauge_fits g → r ≡ fail_if (not (fit && fits)) 10 0
    → r ≡ fail_if (not (gauge_fits g && fits)) 10 0
lengths_are g fits e h = rw e at h

-- document 01's order of tests, by the parts in which the code goes
pub gauge_parts : (g : Gauge) (fits : Bool) {r : Check}
    → r ≡ (shape_check g.rows rows_offset g.columns columns_offset or_else sized_check g fits)
    → r ≡ gauge_check g (gauge_fits g && fits)
unfolding gauge_check
gauge_parts g fits e = e ∙ simp or_else_assoc

-- where all tests have passed, the shape and the steps have, and all slices have their lengths
pub gauge_measured : (g : Gauge) (fits : Bool) → gauge_check g (gauge_fits g && fits) ≡ pass → Measured g × (fits ≡ true) × Stepped (factors_of g.steps)
unfolding gauge_check
gauge_measured g fits e =
    let shape = or_else_parts (shape_check g.rows rows_offset g.columns columns_offset) _ e in
    let lengths = or_else_parts (fail_if (not (gauge_fits g && fits)) 10 0) _ shape.1 in
    let f = not-false _ (fail_if_pass _ 10 0 lengths.0) in
    let tests : numbers_check g or_else gauge_dominance g ≡ pass = simp or_else_assoc lengths.1 in
    (lengths_pass g fits shape.0 f, (and_parts (gauge_fits g) fits f).1, numbers_stepped g (or_else_parts (numbers_check g) _ tests).0)
