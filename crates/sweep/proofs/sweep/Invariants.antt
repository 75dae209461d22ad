-- `sweep::sweep` meets its contract: after each turn the rest of the budget leads to the end of the theory's sweep (`Going`), and each answer names that end.
use Prim.Native.Nat.{◌-◌}
use Rattle.monotone.proofs.Steps.{Going}
use lib.ListN.{length}
use Rattle.relaxation.specs.Rule.{rule_by}
use Rattle.sweep.specs.Sweep.{order_in, state_of}
use Rattle.sweep.proofs.sweep.Given as goal

abbrev pub invariant-loop-counter : goal.invariant-loop-counter
invariant-loop-counter l =
    Going (rule_by (length l.table) l.film) (order_in l.table) l.budget l.initial.field (state_of l.field l.counter l.place)

abbrev pub decreases-loop-counter : goal.decreases-loop-counter
decreases-loop-counter l =
    l.budget - l.counter.visits
