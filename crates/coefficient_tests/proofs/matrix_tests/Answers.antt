-- `coefficient_tests::matrix_tests` meets its contract: coefficients that pass their test are `Limited`, as that of dominance asks.
use Rattle.model.proofs.Checks.{coefficient_passes}
use Rattle.refusals.proofs.Chain.{passed}
use Rattle.coefficient_tests.proofs.matrix_tests.Goals as goal

pub dominance_test-requires : goal.dominance_test-requires
dominance_test-requires c =
    (c.args.film.now.sources, coefficient_passes c.args.film.now c.requires (passed c.coefficient_test.ensures c.in_ok-coefficient_test.was))
