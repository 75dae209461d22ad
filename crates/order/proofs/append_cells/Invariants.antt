-- `order::append_cells` meets its contract: after each turn the cells of the parity so far stand from `start` on, and any more have room.
use Rattle.monotone.specs.Ordering.{picks}
use Rattle.order.specs.Order.{has_parity, Appended}
use Rattle.order.proofs.append_cells.Given as goal

abbrev pub invariant-loop-cell : goal.invariant-loop-cell
invariant-loop-cell l = Appended (picks (has_parity l.even l.columns) l.cell) l.start l.initial.table l.table l.next
