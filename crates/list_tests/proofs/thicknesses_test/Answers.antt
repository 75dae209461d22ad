-- `list_tests::thicknesses_test` meets its contract: the closure answers as `outside` of the thickness at an index; places are one apart.
use Rattle.std.proofs.Common.{get_or, ◌∙◌, rules}
use Rattle.model.specs.Limits.{thickness_limit}
use Rattle.model.specs.Checks.{outside}
use Rattle.refusals.proofs.Search.{one_apart}
use Rattle.list_tests.proofs.thicknesses_test.Goals as goal

pub returns : goal.returns
returns c =
    c.first_place.ensures (λ j. outside (get_or c.args.thicknesses.now j 0) 1 thickness_limit) (λ i low answer e. search rules)
    ∙ one_apart _ _ 7 c.args.at
