-- A run's counts from a sweep's.
use Rattle.std.specs.Prelude.{ℕ}
use Rattle.model.specs.declared.Counts.{Counts}
use Rattle.pointwise.specs.declared.Counter.{Counter}

abbrev pub counts_in : Counter → ℕ → Counts
counts_in c accepted = record { visits = c.visits; raises = c.raises; accepted = accepted }
