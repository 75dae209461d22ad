-- `tightness::tight_row` meets its contract: all cells before the column are tight, and one that is not decides the row.
use mathlib.Core.Path.{◌≡◌, sym, ap, ◌∙◌}
use native.Mathlib.Omega.{arith}
use Rattle.model.specs.Lists.{all_below}
use Rattle.model.specs.Film.{Film}
use Rattle.model.specs.Proposal.{tight}
use Rattle.model.proofs.Lists.{all_fails}
use Rattle.tightness.proofs.tight_row.Goals as goal

pub returns-then-not-tight_at : goal.returns-then-not-tight_at
unfolding tight
returns-then-not-tight_at c =
    sym (all_fails _ _ _ (rw (ap (λ (f : Film). f.columns) c.film.view_is) at c.loop-column-test.true) (rw (← c.tight_at.ensures) c.if-not-tight_at.true))

pub returns : goal.returns
unfolding tight
returns c =
    let e : c.loop-column.column ≡ c.args.film.now.columns = omega (arith, ap (λ (f : Film). f.columns) c.film.view_is) in
    sym c.loop-column.invariant ∙ ap (all_below _) e
