-- Numbers whose pull is the sum of a cell's inside links.
use Rattle.std.specs.Prelude.{◌≡◌, List, ℕ, ◌<◌, length, get_or}

-- n ones
pub record Ones (n : ℕ) (ones : List ℕ) : Type 0 where
  pub len : length ones ≡ n
  pub one : (k : ℕ) → k < n → get_or ones k 0 ≡ 1
