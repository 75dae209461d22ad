-- `order::fill_by_index` meets its contract: after each turn the first k places hold their cells.
use native.Mathlib.Omega.{arith}
use Rattle.grid.proofs.Fill.{filled_more}
use Rattle.order.proofs.fill_by_index.Goals as goal

pub loop-k-preserved : goal.loop-k-preserved
loop-k-preserved c = filled_more _ _ (omega arith) c.place_of.ensures c.loop-k.invariant
