-- `gauge::gauge_tests` meets its contract: the test of the shape is the model's, and with those of lengths and values in its order (`gauge_parts`).
use Rattle.std.proofs.lemmas.Result.{err_from_is_err_and}
use Rattle.refusals.proofs.Chain.{goes_on, refuses}
use Rattle.gauge.proofs.Tests.{shape_is, gauge_parts}
use Rattle.gauge.proofs.gauge_tests.Goals as goal

pub returns-in_err-shape_test : goal.returns-in_err-shape_test
returns-in_err-shape_test c =
    let p = err_from_is_err_and c.from_residual.result c.from_residual.ensures.1 in
    rw (p.1, p.2)
    (gauge_parts c.args.film.now c.args.fits (refuses (shape_is c.film.view_is c.shape_test.ensures) _ c.in_err-shape_test.was))

pub returns : goal.returns
returns c =
    gauge_parts c.args.film.now c.args.fits
    (goes_on (shape_is c.film.view_is c.shape_test.ensures) c.in_ok-shape_test.was c.sized_tests.ensures)
