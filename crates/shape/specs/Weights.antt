-- Weights by row and column.
use Rattle.std.specs.Prelude.{List, [], ℕ, ◌+◌, ◌-◌, ◌*◌}
use Rattle.model.specs.Reynolds.{pressure_at}
use Rattle.model.specs.FileCalls.{bare_of}
use Rattle.model.specs.declared.Head.{Head}

-- the weight at (r, c), which run from 1; 0 on the ring
abbrev pub weight_of : Head → List ℕ → ℕ → ℕ → ℕ
weight_of h weights = pressure_at (bare_of h []) weights

-- what the weights beside (r, c) pull, each over its link
abbrev pub weights_pull : Head → List ℕ → ℕ → ℕ → ℕ → ℕ → ℕ → ℕ → ℕ
weights_pull h weights r c left right down up =
    left * weight_of h weights r (c - 1) + right * weight_of h weights r (c + 1)
    + (down * weight_of h weights (r - 1) c + up * weight_of h weights (r + 1) c)
