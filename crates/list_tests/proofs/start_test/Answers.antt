-- `list_tests::start_test` meets its contract: the closure answers whether the pressure at an index is above the ceiling; its place is the index.
use Rattle.std.proofs.Common.{ltb, get_or, ◌∙◌, rules}
use Rattle.refusals.proofs.Search.{one_apart_from_0}
use Rattle.list_tests.proofs.start_test.Goals as goal

pub returns : goal.returns
returns c =
    c.first_place.ensures (λ i. ltb c.args.ceiling (get_or c.args.field.now i 0)) (λ i low answer e. search rules) ∙ one_apart_from_0 _ _ 12
