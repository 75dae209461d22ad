-- The limits of a cell's numbers, and its slack as a difference of two naturals.
use Rattle.std.specs.Prelude.{ℕ, ◌+◌, ◌*◌, ◌≤◌, ◌<◌, ◌^◌}
use Rattle.model.specs.Integers.{positive_part, negative_part}
use Rattle.cell.specs.declared.Cell.{Cell}

-- within these limits no sum wraps, whatever 32-bit pressures the neighbours have
pub record Bounded (c : Cell) : Type 0 where
  pub some : 0 < c.diagonal
  pub diagonal : c.diagonal ≤ 2 ^ 28
  pub pull : c.pull ≤ 2 ^ 60
  pub positive : positive_part c.source ≤ 2 ^ 60
  pub negative : negative_part c.source ≤ 2 ^ 60

unfoldable pub positive_terms : Cell → ℕ → ℕ
positive_terms c pressure = c.diagonal * pressure + positive_part c.source

unfoldable pub negative_terms : Cell → ℕ
negative_terms c = c.pull + negative_part c.source
