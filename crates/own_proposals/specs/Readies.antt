-- What the proposals before a run leave.
use Rattle.std.specs.Prelude.{◌≡◌, List, ℕ}
use Rattle.model.specs.Run.{Readied}

-- a field before any proposal
abbrev pub from : List ℕ → Readied
from p = record { field = p; accepted = 0 }

-- proposals raised so many cells, and left that field
pub record Readies (r : Readied) (accepted : ℕ) (exit : List ℕ) : Type 0 where
  pub accepted_is : accepted ≡ r.accepted
  pub field_is : exit ≡ r.field
