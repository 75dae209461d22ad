-- `list_tests::weight_test` meets its contract: the closure answers whether the weight at an index is 0.
use Rattle.std.proofs.Common.{eqb, get_or, rules}
use Rattle.list_tests.proofs.weight_test.Goals as goal

pub returns : goal.returns
returns c = c.first_place.ensures (λ i. eqb (get_or c.args.weights.now i 0) 0) (λ i low answer e. search rules)
