-- The tests of a film's numbers in parts.
use Rattle.std.specs.Prelude.{◌≡◌, Bool, not, ◌&&◌, length}
use Rattle.model.specs.Gauge.{Gauge}
use Rattle.model.specs.Refusals.{Check, pass, ◌or_else◌, fail_if}
use Rattle.model.specs.Checks.{shape_check, ceiling_check}
use Rattle.model.specs.File.{cells, ringed, rows_offset, columns_offset, ceiling_offset, wedge_offset, steps_offset, weights_check, thicknesses_check, wedge_check, steps_check, gauge_dominance}
use Rattle.model.specs.FileCalls.{gauge_fits}

-- 5, 6, 7, 8 and 15
abbrev pub numbers_check : Gauge → Check
numbers_check g =
    ceiling_check g.ceiling ceiling_offset or_else weights_check g.weights (cells g.rows g.columns)
    or_else thicknesses_check g.thicknesses (cells g.rows g.columns) (ringed g.rows g.columns)
    or_else wedge_check g.wedge (wedge_offset (cells g.rows g.columns) (ringed g.rows g.columns))
    or_else steps_check g.steps (steps_offset (cells g.rows g.columns) (ringed g.rows g.columns))

-- 5, 6, 7, 8, 15 and 9
abbrev pub values_check : Gauge → Check
values_check g = numbers_check g or_else gauge_dominance g

-- 10, 5, 6, 7, 8, 15 and 9: `fits` says whether the call's other slices have their lengths
abbrev pub sized_check : Gauge → Bool → Check
sized_check g fits = fail_if (not (gauge_fits g && fits)) 10 0 or_else values_check g

-- the shape has passed its test, and the film's two slices have their lengths
pub record Measured (g : Gauge) : Type 0 where
  pub shape : shape_check g.rows rows_offset g.columns columns_offset ≡ pass
  pub weights_len : length g.weights ≡ cells g.rows g.columns
  pub thicknesses_len : length g.thicknesses ≡ ringed g.rows g.columns
