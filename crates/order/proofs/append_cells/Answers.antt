-- `order::append_cells` meets its contract: after each turn the cells of the parity so far stand from `start` on, and any more have room.
use mathlib.Core.Path.{sym, ◌∙◌}
use Prim.Native.Nat.{◌<◌}
use native.Mathlib.Omega.{arith}
use lib.ListN.{length}
use Rattle.order.specs.Order.{has_parity}
use Rattle.order.proofs.Append.{append_yes, append_no, append_room, append_len}
use Rattle.order.proofs.append_cells.Goals as goal
use Rattle.order.proofs.append_cells.Goals.{then-has_parity, else-has_parity}

-- where a cell is appended, there is room for it
room : (c : goal.Then-has_parity)
    → c.loop-cell.next < length c.args.table.now
room c =
    let passes = sym c.has_parity.ensures ∙ c.if-has_parity.true in
    append_room _ _ c.loop-cell.invariant {n = c.args.n} passes (omega arith) c.requires.2

pub offset_bounds-table-next : goal.offset_bounds-table-next
offset_bounds-table-next c = omega (arith, room c)

pub bounds-table-next : goal.bounds-table-next
bounds-table-next c = omega (arith, room c, append_len c.loop-cell.invariant)

pub overflow_add-next : goal.overflow_add-next
overflow_add-next c = omega (arith, room c)

pub loop-cell-preserved : goal.loop-cell-preserved
loop-cell-preserved c =
    let test = has_parity c.args.even c.args.columns in
    let is = sym c.has_parity.ensures in
    elim c.if-has_parity.branch [
      | then-has_parity w ↦ rw (w.table-is, w.next-is) (append_yes test c.loop-cell.cell c.loop-cell.invariant (is ∙ w.if-has_parity.true))
      | else-has_parity w ↦ rw (w.table-is, w.next-is) (append_no test c.loop-cell.cell c.loop-cell.invariant (is ∙ w.if-has_parity.false))
    ]
