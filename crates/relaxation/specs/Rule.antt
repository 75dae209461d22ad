-- The film's rule, read by index.
use Rattle.std.specs.Prelude.{List, ℕ}
use Rattle.monotone.specs.Rule.{Rule}
use Rattle.model.specs.Film.{Film, diagonal_at, source_at}
use Rattle.model.specs.Relaxation.{required_for}
use Rattle.grid.specs.Pull.{pull_by}

unfoldable pub required_by : Film → List ℕ → ℕ → ℕ
required_by f p i = required_for (diagonal_at f i) (pull_by f.columns f.rights f.ups p i) (source_at f i)

-- of as many cells as are listed
abbrev pub rule_by : ℕ → Film → Rule
rule_by size f = record { size = size; ceiling = f.ceiling; required = required_by f }
