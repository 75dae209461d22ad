-- `tightness::tight_row` meets its contract: all cells before the column are tight, and one that is not decides the row.
use mathlib.Core.Path.{◌≡◌}
use mathlib.Core.Bool.{true, not, ◌||◌}
use Prim.Native.Nat.{◌+◌}
use Rattle.model.specs.Lists.{all_below}
use Rattle.model.specs.Integers.{at_most_zero}
use Rattle.model.specs.Film.{slack}
use Rattle.model.specs.Proposal.{rises}
use Rattle.tightness.proofs.tight_row.Given as goal

abbrev pub invariant-loop-column : goal.invariant-loop-column
invariant-loop-column l =
    all_below (λ j. not (rises l.field l.raised (l.start + j)) || at_most_zero (slack l.film l.raised (l.start + j))) l.column ≡ true
