-- `raising::within_ceiling` meets its contract: all cells before the column have passed, and one above the ceiling decides the row.
use mathlib.Core.Path.{◌≡◌}
use mathlib.Core.Bool.{true}
use Prim.Native.Nat.{◌+◌}
use lib.Dec.{leb}
use lib.ListN.{get_or}
use Rattle.model.specs.Lists.{all_below}
use Rattle.raising.proofs.within_ceiling.Given as goal

abbrev pub invariant-loop-column : goal.invariant-loop-column
invariant-loop-column l = all_below (λ j. leb (get_or l.raised (l.start + j) 0) l.ceiling) l.column ≡ true
