-- `checks::film_tests` meets its contract: the test of shape, ceiling and lengths is the model's, and a film that passes it is `Sized`, as `value_tests` asks.
use Rattle.std.proofs.lemmas.Result.{err_from_is_err_and}
use Rattle.model.proofs.Checks.{size_passes}
use Rattle.refusals.proofs.Chain.{passed, goes_on, refuses}
use Rattle.checks.proofs.Own.{size_is}
use Rattle.checks.proofs.film_tests.Goals as goal

pub returns-in_err-size_test : goal.returns-in_err-size_test
returns-in_err-size_test c =
    let p = err_from_is_err_and c.from_residual.result c.from_residual.ensures.1 in
    rw (p.1, p.2) (refuses (size_is c.film.view_is c.args.fits c.film_fits.ensures c.size_test.ensures) _ c.in_err-size_test.was)

pub value_tests-requires : goal.value_tests-requires
value_tests-requires c =
    let size = size_is c.film.view_is c.args.fits c.film_fits.ensures c.size_test.ensures in
    (size_passes c.args.film.now c.args.fits (passed size c.in_ok-size_test.was)).0

pub returns : goal.returns
returns c =
    goes_on (size_is c.film.view_is c.args.fits c.film_fits.ensures c.size_test.ensures) c.in_ok-size_test.was c.value_tests.ensures
