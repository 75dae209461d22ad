-- `weighing::search` meets its contract: the starts of its tables are the sources and the zeros that the search begins with.
use Prim.Native.Nat.{◌≤◌}
use lib.IntN.{negsuc}
use lib.ListN.{length}
use Rattle.model.proofs.Lists.{take_same}
use Rattle.weighing.proofs.Searches.{few_cells}
use Rattle.weighing.proofs.search.Goals as goal

pub search_from-requires-clause-zeros : goal.search_from-requires-clause-zeros
search_from-requires-clause-zeros c =
    let low : length c.args.weights.now ≤ 1024 = few_cells c.requires.0 c.requires.1 in
    let n = length c.args.weights.now in
    (take_same (negsuc 0) n 1024 low c.requires.1, take_same 0 n 1024 low c.requires.1)
