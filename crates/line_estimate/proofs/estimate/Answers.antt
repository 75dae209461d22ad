-- `line_estimate::estimate` meets its contract: what passes its tests is estimated with the film's margin from the line's first cell on.
use mathlib.Core.Path.{◌≡◌, sym, ap, ◌∙◌}
use Prim.Native.Nat.{◌-◌, ◌*◌}
use native.Mathlib.Omega.{arith}
use Rattle.model.specs.Film.{Film}
use Rattle.line_checks.proofs.Passed.{line_ready}
use Rattle.line_estimate.proofs.estimate.Goals as goal

pub line_start-start-requires : goal.line_start-start-requires
line_start-start-requires c =
    let a = c.args in
    let R = line_ready a.film.now a.field.now a.proposal.now a.line (sym c.in_ok-line_tests.ensures) in
    let S = R.film.limited.sized in
    let columns : c.film.inside.head.columns ≡ a.film.now.columns = ap (λ (f : Film). f.columns) c.film.view_is in
    (R.line_some, (omega (arith, R.line_low, S.rows_low), omega (arith, columns, S.columns_low)))

pub margin-requires : goal.margin-requires
margin-requires c =
    let a = c.args in
    (a.film.now.sources, (line_ready a.film.now a.field.now a.proposal.now a.line (sym c.in_ok-line_tests.ensures)).film)

pub estimate-requires-clause-accepted : goal.estimate-requires-clause-accepted
estimate-requires-clause-accepted c =
    let a = c.args in
    (line_ready a.film.now a.field.now a.proposal.now a.line (sym c.in_ok-line_tests.ensures)).film

pub estimate-requires-clause-bounded : goal.estimate-requires-clause-bounded
estimate-requires-clause-bounded c =
    let a = c.args in
    (line_ready a.film.now a.field.now a.proposal.now a.line (sym c.in_ok-line_tests.ensures)).bounded

pub estimate-requires-clause-row : goal.estimate-requires-clause-row
estimate-requires-clause-row c =
    let a = c.args in
    let R = line_ready a.film.now a.field.now a.proposal.now a.line (sym c.in_ok-line_tests.ensures) in
    let start = c.line_start-start.ensures ∙ ap (λ (f : Film). (a.line - 1) * f.columns) c.film.view_is in
    (rw start R.inside, R.len)
