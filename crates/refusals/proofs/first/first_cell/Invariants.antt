-- `refusals::first::first_cell` meets its contract: one search (`Searched`), by any test that `bad` decides, comes row by row to the cell's index.
use Rattle.std.proofs.Common.{Bool, ℕ, ◌+◌, ◌*◌}
use Rattle.refusals.specs.Tests.{CellsDecides}
use Rattle.refusals.proofs.Search.{Searched}
use Rattle.refusals.proofs.first.first_cell.Given as goal

abbrev pub invariant-loop-row : goal.invariant-loop-row
invariant-loop-row g l =
    (test : ℕ → Bool) → CellsDecides l.fn.head (goal.F-post g l.bad) test → Searched test (l.fn.head.rows * l.fn.head.columns) (l.row * l.fn.head.columns)

abbrev pub invariant-loop-column : goal.invariant-loop-column
invariant-loop-column g l =
    (test : ℕ → Bool) → CellsDecides l.fn.head (goal.F-post g l.bad) test
    → Searched test (l.fn.head.rows * l.fn.head.columns) (l.row * l.fn.head.columns + l.column)
