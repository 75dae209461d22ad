-- `gauge::sized_tests` meets its contract: the test of lengths is the model's, and the values follow it.
use Rattle.std.proofs.lemmas.Result.{err_from_is_err_and}
use Rattle.refusals.proofs.Chain.{goes_on, refuses}
use Rattle.gauge.proofs.Tests.{lengths_are}
use Rattle.gauge.proofs.sized_tests.Goals as goal

pub returns-in_err-fail_if : goal.returns-in_err-fail_if
returns-in_err-fail_if c =
    let p = err_from_is_err_and c.from_residual.result c.from_residual.ensures.1 in
    rw (p.1, p.2) (refuses (lengths_are c.args.film.now c.args.fits c.gauge_fits.ensures c.fail_if.ensures) _ c.in_err-fail_if.was)

pub returns : goal.returns
returns c =
    goes_on (lengths_are c.args.film.now c.args.fits c.gauge_fits.ensures c.fail_if.ensures) c.in_ok-fail_if.was c.value_tests.ensures
