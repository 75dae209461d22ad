-- `checks::value_tests` meets its contract: the tests are the model's, in its order, and coefficients that pass theirs are `Limited`, as that of dominance asks.
use Rattle.std.proofs.lemmas.Result.{err_from_is_err_and}
use Rattle.model.proofs.Checks.{coefficient_passes}
use Rattle.refusals.proofs.Chain.{passed, goes_on, refuses}
use Rattle.checks.proofs.Own.{weights_are}
use Rattle.checks.proofs.value_tests.Goals as goal

pub returns-in_err-weight_test : goal.returns-in_err-weight_test
returns-in_err-weight_test c =
    let p = err_from_is_err_and c.from_residual-in_err-weight_test.result c.from_residual-in_err-weight_test.ensures.1 in
    rw (p.1, p.2)
    (goes_on c.coefficient_test.ensures c.in_ok-coefficient_test.was
    (refuses (weights_are c.film.view_is c.requires c.weight_test.ensures) _ c.in_err-weight_test.was))

pub dominance_test-requires : goal.dominance_test-requires
dominance_test-requires c =
    (c.args.film.now.sources, coefficient_passes c.args.film.now c.requires (passed c.coefficient_test.ensures c.in_ok-coefficient_test.was))

pub returns : goal.returns
returns c =
    goes_on c.coefficient_test.ensures c.in_ok-coefficient_test.was
    (goes_on (weights_are c.film.view_is c.requires c.weight_test.ensures) c.in_ok-weight_test.was c.dominance_test.ensures)
