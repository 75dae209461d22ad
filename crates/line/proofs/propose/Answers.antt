-- `line::propose` meets its contract: what passes its tests is decided on from the line's first cell on.
use mathlib.Core.Path.{◌≡◌, sym, ap, ◌∙◌}
use Prim.Native.Nat.{◌-◌, ◌*◌}
use native.Mathlib.Omega.{arith}
use Rattle.model.specs.Film.{Film}
use Rattle.line_checks.proofs.Passed.{line_ready}
use Rattle.line.proofs.propose.Goals as goal

pub line_start-start-requires : goal.line_start-start-requires
line_start-start-requires c =
    let a = c.args in
    let R = line_ready a.film.now a.field.now a.proposal.now a.line (sym c.in_ok-line_tests.ensures) in
    let S = R.film.limited.sized in
    let columns : c.film.inside.head.columns ≡ a.film.now.columns = ap (λ (f : Film). f.columns) c.film.view_is in
    (R.line_some, (omega (arith, R.line_low, S.rows_low), omega (arith, columns, S.columns_low)))

pub propose-requires-clause-limited : goal.propose-requires-clause-limited
propose-requires-clause-limited c =
    let a = c.args in
    (a.film.now.weights, (line_ready a.film.now a.field.now a.proposal.now a.line (sym c.in_ok-line_tests.ensures)).film.limited)

pub propose-requires-clause-row : goal.propose-requires-clause-row
propose-requires-clause-row c =
    let a = c.args in
    let R = line_ready a.film.now a.field.now a.proposal.now a.line (sym c.in_ok-line_tests.ensures) in
    let start = c.line_start-start.ensures ∙ ap (λ (f : Film). (a.line - 1) * f.columns) c.film.view_is in
    (R.bounded.len, rw start R.inside, R.len)
