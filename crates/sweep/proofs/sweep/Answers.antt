-- `sweep::sweep` meets its contract: after each turn the rest of the budget leads to the end of the theory's sweep (`Going`), and each answer names that end.
use Rattle.sweep.proofs.Turn.{stops, goes_on, is_done, is_over}
use Rattle.sweep.proofs.Film.{listed_all, ends_own}
use Rattle.sweep.proofs.sweep.Goals as goal

pub loop-counter-preserved : goal.loop-counter-preserved
loop-counter-preserved c =
    goes_on c.loop-counter.invariant (listed_all c.requires.listed.0) c.loop-counter-test.true c.advance-step.ensures c.in-On.is c.next_place-place.ensures

pub returns-in-Done : goal.returns-in-Done
returns-in-Done c =
    let ends = is_done c.loop-counter.invariant (listed_all c.requires.listed.0) c.loop-counter-test.true c.advance-step.ensures c.in-Done.is in
    record { by_index = ends; own = ends_own c.requires.listed ends }

pub returns-in-Over : goal.returns-in-Over
returns-in-Over c =
    let ends = is_over c.loop-counter.invariant (listed_all c.requires.listed.0) c.loop-counter-test.true c.advance-step.ensures c.in-Over.is in
    record { by_index = ends; own = ends_own c.requires.listed ends }

pub returns : goal.returns
returns c = let ends = stops c.loop-counter.invariant c.loop-counter-test.false in record { by_index = ends; own = ends_own c.requires.listed ends }
