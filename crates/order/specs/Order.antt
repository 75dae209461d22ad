-- The orders' parts, as the functions that fill their table take them.
use Rattle.std.specs.Prelude.{◌≡◌, Bool, not, cond, List, ℕ, ◌+◌, ◌-◌, length}
use Rattle.std.proofs.lemmas.List.Edits.{sets}
use Rattle.model.specs.Run.{even_cell}

-- orders 0 and 1: the cell at place k of n, by index or by falling index
abbrev pub by_index : Bool → ℕ → ℕ → ℕ
by_index falling n k = cond falling (n - 1 - k) k

-- order 2: the even cells, or the odd ones
abbrev pub has_parity : Bool → ℕ → ℕ → Bool
has_parity even columns i = cond even (even_cell columns i) (not (even_cell columns i))

-- the cells stand in the table from place `start` on, and `next` is the place after them
pub record Appended (cells : List ℕ) (start : ℕ) (before after : List ℕ) (next : ℕ) : Type 0 where
  pub table : after ≡ sets before start cells
  pub free : next ≡ start + length cells
