-- The tests of a film that comes as coefficients, in parts.
use Rattle.model.specs.Refusals.{Check, ◌or_else◌}
use Rattle.model.specs.Film.{Film, size_of}
use Rattle.model.specs.Checks.{coefficient_check, dominance_check}
use Rattle.model.specs.File.{weights_check}

-- 14 and 9
abbrev pub matrix_check : Film → Check
matrix_check f = coefficient_check f or_else dominance_check f

-- 6, 14 and 9
abbrev pub values_check : Film → Check
values_check f = weights_check f.weights (size_of f) or_else matrix_check f
