-- `weighing::search_gauged` meets its contract: the coefficients are formed at the starts of tables that hold any film's, and the search looks at no source.
use Rattle.std.specs.Prelude.{Some}
use Rattle.weighing.proofs.Searches.{searches_formed}
use Rattle.weighing.proofs.search_gauged.Goals as goal

pub returns : goal.returns
returns c =
    searches_formed c.args.head c.args.thicknesses.now (Some c.args.factors) c.requires.ringed.2 c.form.ensures c.search.ensures
