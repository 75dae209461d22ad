-- `coefficients::form` meets its contract: its tests are the model's; what passes them is formed and fills the four slices, and a refusal leaves them as they were.
use mathlib.Core.Path.{sym, ap, ◌∙◌}
use Rattle.std.proofs.lemmas.Result.{err_from_is_err_and}
use Rattle.model.specs.Refusals.{check_of}
use Rattle.coefficients.proofs.Calls.{form_tested, form_ready, form_written, form_refused}
use Rattle.coefficients.proofs.form.Goals as goal

pub form-requires-clause-ringed : goal.form-requires-clause-ringed
form-requires-clause-ringed c =
    let a = c.args in
    let tested =
    form_tested a.film.now a.diagonals.now a.rights.now a.ups.now a.sources.now c.film.view_is c.area-n.ensures c.gauge_tests.ensures in
    (form_ready a.film.now a.diagonals.now a.rights.now a.ups.now a.sources.now (sym tested ∙ ap check_of c.in_ok-gauge_tests.was)).0

pub form-requires-clause-room : goal.form-requires-clause-room
form-requires-clause-room c =
    let a = c.args in
    let tested =
    form_tested a.film.now a.diagonals.now a.rights.now a.ups.now a.sources.now c.film.view_is c.area-n.ensures c.gauge_tests.ensures in
    (form_ready a.film.now a.diagonals.now a.rights.now a.ups.now a.sources.now (sym tested ∙ ap check_of c.in_ok-gauge_tests.was)).1

pub returns : goal.returns
returns c =
    let a = c.args in
    let tested =
    form_tested a.film.now a.diagonals.now a.rights.now a.ups.now a.sources.now c.film.view_is c.area-n.ensures c.gauge_tests.ensures in
    form_written a.film.now a.diagonals.now a.rights.now a.ups.now a.sources.now (sym tested ∙ ap check_of c.in_ok-gauge_tests.was) c.form.ensures
    record {
      diagonals_kept = c.form.auto.diagonals;
      rights_kept = c.form.auto.rights;
      ups_kept = c.form.auto.ups;
      sources_kept = c.form.auto.sources;
    }

pub returns-in_err-gauge_tests : goal.returns-in_err-gauge_tests
returns-in_err-gauge_tests c =
    let a = c.args in
    let tested =
    form_tested a.film.now a.diagonals.now a.rights.now a.ups.now a.sources.now c.film.view_is c.area-n.ensures c.gauge_tests.ensures in
    let p = err_from_is_err_and c.from_residual.result c.from_residual.ensures.1 in
    rw (p.1, p.2)
    (form_refused a.film.now a.diagonals.now a.rights.now a.ups.now a.sources.now (sym tested ∙ ap check_of c.in_err-gauge_tests.was))
