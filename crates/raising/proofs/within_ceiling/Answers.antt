-- `raising::within_ceiling` meets its contract: all cells before the column have passed, and one above the ceiling decides the row.
use mathlib.Core.Path.{sym}
use borrow.Author.Tests.{lt-leb}
use Rattle.model.proofs.Lists.{all_fails}
use Rattle.raising.proofs.within_ceiling.Goals as goal

pub returns-then-ceiling-raised : goal.returns-then-ceiling-raised
returns-then-ceiling-raised c = sym (all_fails _ _ _ c.loop-column-test.true (lt-leb _ _ c.if-ceiling-raised.true))
