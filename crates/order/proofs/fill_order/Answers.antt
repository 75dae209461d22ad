-- `order::fill_order` meets its contract: orders 0 and 1 go by index, and in order 2 the odd cells follow the even ones, which together are all.
use mathlib.Core.Path.{◌∙◌}
use native.Mathlib.Omega.{arith}
use Rattle.monotone.proofs.Ordering.{picks_length}
use Rattle.model.specs.Run.{even_cell}
use Rattle.order.proofs.Append.{append_len, append_all, order_low, order_high}
use Rattle.order.proofs.fill_order.Goals as goal

pub append_cells-odds-requires : goal.append_cells-odds-requires
append_cells-odds-requires c =
    let a = c.args in
    omega (arith, picks_length (even_cell a.columns) a.n)

pub append_cells-requires : goal.append_cells-requires
append_cells-requires c =
    omega (arith, picks_length (even_cell c.args.columns) c.args.n, c.requires, append_len c.append_cells-odds.ensures)

pub returns-then-order-lt2 : goal.returns-then-order-lt2
returns-then-order-lt2 c =
    let a = c.args in
    c.fill_by_index.ensures ∙ order_low a.columns a.n a.order c.if-order-lt2.true

pub returns-else-order-lt2 : goal.returns-else-order-lt2
returns-else-order-lt2 c =
    let a = c.args in
    append_all (even_cell a.columns) a.n c.requires.1 c.append_cells-odds.ensures c.append_cells.ensures
    ∙ order_high a.columns a.n a.order c.if-order-lt2.false
