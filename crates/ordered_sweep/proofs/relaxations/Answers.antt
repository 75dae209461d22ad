-- `ordered_sweep::relaxations` meets its contract: the table lists the cells in the order, so that the sweep over it is the film's own, and its counts fit.
use mathlib.Core.Path.{ap}
use Rattle.model.specs.Film.{Film}
use Rattle.grid.proofs.Limited.{edges_anyhow, aligned_anyhow}
use Rattle.ordered_sweep.proofs.Table.{cells_listed, cells_some, run_gives, counts_low}
use Rattle.ordered_sweep.proofs.relaxations.Goals as goal

pub sweep-requires-clause-aligned : goal.sweep-requires-clause-aligned
sweep-requires-clause-aligned c = aligned_anyhow c.requires.limited.1 c.requires.field

pub sweep-requires-clause-listed : goal.sweep-requires-clause-listed
sweep-requires-clause-listed c =
    let columns = ap (λ (f : Film). f.columns) c.film.view_is in
    let n = c.requires.field in (
      cells_listed c.args.film.now c.requires.limited.1 c.args.order n columns c.fill_order.ensures n,
      cells_some c.args.film.now c.requires.limited.1 c.args.order n columns c.fill_order.ensures n,
    )

pub as_answer-requires : goal.as_answer-requires
as_answer-requires c = counts_low c.sweep.ensures.by_index c.ranges.budget.fits

pub returns : goal.returns
returns c =
    run_gives c.args.film.now c.requires.limited.1 c.args.order c.requires.field (ap (λ (f : Film). f.columns) c.film.view_is) c.fill_order.ensures
    c.args.accepted (c.sweep.ensures.own (edges_anyhow c.requires.limited.1) c.requires.field) c.as_answer.ensures
