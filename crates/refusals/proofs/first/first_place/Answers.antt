-- `refusals::first::first_place` meets its contract: a search (`Searched`) by any test that `bad` decides.
use Rattle.std.proofs.Common.{◌+◌, ◌*◌}
use Rattle.refusals.proofs.Search.{search_begins, search_next, search_fails}
use Rattle.refusals.proofs.first.first_place.Goals as goal

pub loop-i-init : goal.loop-i-init
loop-i-init g c test d = search_begins test _

pub returns-then-bad : goal.returns-then-bad
returns-then-bad g c test d =
    let a = c.args in
    search_fails (c.loop-i.invariant test d) c.loop-i-test.true (d _ c.loop-i-test.true _ c.bad.ensures) _ (λ i. a.from + a.step * i) c.if-bad.true

pub loop-i-preserved : goal.loop-i-preserved
loop-i-preserved g c test d =
    search_next (c.loop-i.invariant test d) c.loop-i-test.true (d _ c.loop-i-test.true _ c.bad.ensures) c.if-bad.false
