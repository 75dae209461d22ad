-- `checks::field_tests` meets its contract: the tests are the model's, in its order; a field that comes to refusal 12 has N cells, by refusal 10 (`field_own`).
use mathlib.Core.Path.{refl}
use Rattle.std.proofs.lemmas.Result.{err_from_is_err_and}
use Rattle.model.specs.Refusals.{check_of}
use Rattle.refusals.proofs.Chain.{goes_on, refuses}
use Rattle.checks.proofs.Own.{field_own, whole_is, start_is}
use Rattle.checks.proofs.field_tests.Goals as goal

pub returns-in_err-start_test : goal.returns-in_err-start_test
returns-in_err-start_test c =
    let a = c.args in
    let p = err_from_is_err_and c.from_residual-in_err-start_test.result c.from_residual-in_err-start_test.ensures.1 in
    rw (p.1, p.2)
    (field_own a.film.now a.field.now a.fits (check_of a.order) (check_of a.place)
    (goes_on (whole_is c.film.view_is a.field.now a.fits c.area.ensures c.film_tests.ensures) c.in_ok-film_tests.was
    (goes_on refl c.in_ok-order.was
    (refuses (start_is c.film.view_is a.field.now c.start_test.ensures) _ c.in_err-start_test.was))))

pub returns : goal.returns
returns c =
    let a = c.args in
    field_own a.film.now a.field.now a.fits (check_of a.order) (check_of a.place)
    (goes_on (whole_is c.film.view_is a.field.now a.fits c.area.ensures c.film_tests.ensures) c.in_ok-film_tests.was
    (goes_on refl c.in_ok-order.was
    (goes_on (start_is c.film.view_is a.field.now c.start_test.ensures) c.in_ok-start_test.was refl)))
