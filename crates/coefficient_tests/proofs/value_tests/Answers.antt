-- `coefficient_tests::value_tests` meets its contract: the test of the weights is the file's (`weights_are`).
use Rattle.std.proofs.lemmas.Result.{err_from_is_err_and}
use Rattle.refusals.proofs.Chain.{goes_on, refuses}
use Rattle.coefficient_tests.proofs.Tests.{weights_are}
use Rattle.coefficient_tests.proofs.value_tests.Goals as goal

pub returns-in_err-weight_test : goal.returns-in_err-weight_test
returns-in_err-weight_test c =
    let p = err_from_is_err_and c.from_residual.result c.from_residual.ensures.1 in
    rw (p.1, p.2) (refuses (weights_are c.film.view_is c.requires c.weight_test.ensures) _ c.in_err-weight_test.was)

pub returns : goal.returns
returns c = goes_on (weights_are c.film.view_is c.requires c.weight_test.ensures) c.in_ok-weight_test.was c.matrix_tests.ensures
