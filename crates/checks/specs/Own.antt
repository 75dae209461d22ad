-- A call's tests in parts.
use Rattle.std.specs.Prelude.{Bool}
use Rattle.model.specs.Refusals.{Check, ◌or_else◌}
use Rattle.model.specs.Film.{Film}
use Rattle.model.specs.Checks.{size_check, coefficient_check, weight_check, dominance_check}

-- 14, 6 and 9
abbrev pub value_check : Film → Check
value_check f = coefficient_check f or_else weight_check f or_else dominance_check f

-- 4, 5, 10, 14, 6 and 9: the tests that every call has
abbrev pub own_check : Film → Bool → Check
own_check f fits = size_check f fits or_else value_check f
