-- A text in a lent slice: that it has room there, and that it was written.
use Rattle.std.specs.Prelude.{◌≡◌, List, ℕ, ◌+◌, ◌≤◌, length}
use Rattle.std.proofs.lemmas.List.Edits.{sets}

pub record Fits (text out : List ℕ) (at : ℕ) : Type 0 where
  pub room : at + length text ≤ length out

-- from `at` on, with `next` the place after it
pub record Writes (text before : List ℕ) (at : ℕ) (after : List ℕ) (next : ℕ) : Type 0 where
  pub bytes_are : after ≡ sets before at text
  pub next_is : next ≡ at + length text
