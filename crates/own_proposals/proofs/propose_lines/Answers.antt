-- `own_proposals::propose_lines` meets its contract: after each turn the lines so far have been proposed as the model proposes them, and no line has more cells
-- to raise than columns, so that the count fits.
use mathlib.Core.Path.{◌≡◌, ap}
use Prim.Native.Nat.{◌+◌, ◌-◌}
use native.Mathlib.Omega.{arith}
use Rattle.model.specs.Film.{Film}
use Rattle.own_proposals.proofs.Proposals.{proposing_begin, proposing_next, proposing_bounded, proposing_done}
use Rattle.own_proposals.proofs.propose_lines.Goals as goal

pub loop-line-init : goal.loop-line-init
loop-line-init c = proposing_begin _ _

pub propose_line-accepted-requires-clause-accepted : goal.propose_line-accepted-requires-clause-accepted
propose_line-accepted-requires-clause-accepted c =
    (c.requires.accepted.0, proposing_bounded c.args.film.now c.requires.accepted.0 c.args.field.now _ _ _ c.loop-line.invariant c.requires.accepted.1)

pub overflow_add-accepted : goal.overflow_add-accepted
overflow_add-accepted c =
    let s = c.requires.accepted.0.limited.sized in
    let next = proposing_next c.args.film.now c.args.field.now _ _ _ s.columns_low c.loop-line.auto.line c.loop-line.invariant c.propose_line-accepted.ensures in
    omega (arith, next.low, s.rows_low, ap (λ (f : Film). f.rows) c.film.view_is)

pub loop-line-preserved : goal.loop-line-preserved
loop-line-preserved c =
    let s = c.requires.accepted.0.limited.sized in
    let next = proposing_next c.args.film.now c.args.field.now _ _ _ s.columns_low c.loop-line.auto.line c.loop-line.invariant c.propose_line-accepted.ensures in
    let e : c.loop-line.line + 1 - 1 ≡ c.loop-line.line = omega arith in
    rw e next

pub returns-2 : goal.returns-2
returns-2 c =
    let s = c.requires.accepted.0.limited.sized in
    let next = proposing_next c.args.film.now c.args.field.now _ _ _ s.columns_low c.loop-line.auto.line c.loop-line.invariant c.propose_line-accepted.ensures in
    proposing_done c.args.film.now c.args.field.now _ _ _ next (omega (arith, ap (λ (f : Film). f.rows) c.film.view_is))
