-- `order::fill_by_index` meets its contract: after each turn the first k places hold their cells.
use Rattle.std.proofs.Common.{◌≡◌, take}
use Rattle.model.specs.Lists.{tabulate}
use Rattle.order.specs.Order.{by_index}
use Rattle.order.proofs.fill_by_index.Given as goal

abbrev pub invariant-loop-k : goal.invariant-loop-k
invariant-loop-k l = take l.k l.table ≡ tabulate l.k (by_index l.falling l.n)
