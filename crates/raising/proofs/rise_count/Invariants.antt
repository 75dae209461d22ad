-- `raising::rise_count` meets its contract: the loop has counted the rises before the column, at most one for each, so the sum fits.
use mathlib.Core.Path.{◌≡◌}
use Prim.Native.Nat.{◌+◌, ◌≤◌}
use Rattle.model.specs.Lists.{count_below}
use Rattle.model.specs.Proposal.{rises}
use Rattle.raising.proofs.rise_count.Given as goal

abbrev pub invariant-loop-column : goal.invariant-loop-column
invariant-loop-column l = (l.cells ≡ count_below (λ j. rises l.field l.raised (l.start + j)) l.column) × (l.cells ≤ l.column)
