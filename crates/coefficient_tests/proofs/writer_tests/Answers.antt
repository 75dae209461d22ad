-- `coefficient_tests::writer_tests` meets its contract: the tests of shape, lengths and ceiling are the writer's, in its order, and a film that passes
-- them is `Sized`, as `value_tests` asks (`head_sized`).
use Rattle.std.proofs.lemmas.Result.{err_from_is_err_and}
use Rattle.model.specs.CoefficientFile.{writer_check}
use Rattle.refusals.proofs.Chain.{passed, goes_on, refuses}
use Rattle.coefficient_tests.proofs.Tests.{shape_is, ceiling_is, lengths_are, head_sized}
use Rattle.coefficient_tests.proofs.writer_tests.Goals as goal

pub returns-in_err-shape_test : goal.returns-in_err-shape_test
unfolding writer_check
returns-in_err-shape_test c =
    let p = err_from_is_err_and c.from_residual.result c.from_residual.ensures.1 in
    rw (p.1, p.2) (refuses (shape_is c.film.view_is c.shape_test.ensures) _ c.in_err-shape_test.was)

pub returns-in_err-fail_if : goal.returns-in_err-fail_if
unfolding writer_check
returns-in_err-fail_if c =
    let p = err_from_is_err_and c.from_residual-in_err-fail_if.result c.from_residual-in_err-fail_if.ensures.1 in
    rw (p.1, p.2)
    (goes_on (shape_is c.film.view_is c.shape_test.ensures) c.in_ok-shape_test.was
    (refuses (lengths_are c.args.film.now c.args.fits c.film_fits.ensures c.fail_if.ensures) _ c.in_err-fail_if.was))

pub returns-in_err-ceiling_test : goal.returns-in_err-ceiling_test
unfolding writer_check
returns-in_err-ceiling_test c =
    let p = err_from_is_err_and c.from_residual-in_err-ceiling_test.result c.from_residual-in_err-ceiling_test.ensures.1 in
    rw (p.1, p.2)
    (goes_on (shape_is c.film.view_is c.shape_test.ensures) c.in_ok-shape_test.was
    (goes_on (lengths_are c.args.film.now c.args.fits c.film_fits.ensures c.fail_if.ensures) c.in_ok-fail_if.was
    (refuses (ceiling_is c.film.view_is c.ceiling_test.ensures) _ c.in_err-ceiling_test.was)))

pub value_tests-requires : goal.value_tests-requires
value_tests-requires c =
    head_sized c.args.film.now c.args.fits (passed (shape_is c.film.view_is c.shape_test.ensures) c.in_ok-shape_test.was)
    (passed (lengths_are c.args.film.now c.args.fits c.film_fits.ensures c.fail_if.ensures) c.in_ok-fail_if.was)
    (passed (ceiling_is c.film.view_is c.ceiling_test.ensures) c.in_ok-ceiling_test.was)

pub returns : goal.returns
unfolding writer_check
returns c =
    goes_on (shape_is c.film.view_is c.shape_test.ensures) c.in_ok-shape_test.was
    (goes_on (lengths_are c.args.film.now c.args.fits c.film_fits.ensures c.fail_if.ensures) c.in_ok-fail_if.was
    (goes_on (ceiling_is c.film.view_is c.ceiling_test.ensures) c.in_ok-ceiling_test.was c.value_tests.ensures))
