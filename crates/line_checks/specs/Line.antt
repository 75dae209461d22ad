-- The tests of a call for one line, by how many numbers it is lent: the model's `row_check` of a list of that length.
use Rattle.std.specs.Prelude.{ℕ, List, eqb}
use Rattle.model.specs.Refusals.{Check, pass}
use Rattle.model.specs.Film.{Film}
use Rattle.model.specs.Checks.{field_check, line_check}

abbrev pub row_check_by : Film → List ℕ → ℕ → ℕ → Check
row_check_by f p length line = field_check f p (eqb length f.columns) pass (line_check f line)
