-- `Cell::raise` meets its contract: a cell whose slack is not negative has nothing to be raised to, any other gets what it requires.
use mathlib.Core.Path.{◌∙◌}
use native.Mathlib.Omega.{arith}
use Rattle.cell.proofs.Limits.{raise_quiet, raise_up}
use Rattle.cell.proofs.Cell.raise.Goals as goal

pub returns-then-positive_terms-negative_terms : goal.returns-then-positive_terms-negative_terms
returns-then-positive_terms-negative_terms c = raise_quiet _ c.requires c.args.pressure (omega arith)

pub returns : goal.returns
returns c =
    let s = c in
    c.required.ensures ∙ raise_up _ s.requires s.args.pressure (omega arith)
