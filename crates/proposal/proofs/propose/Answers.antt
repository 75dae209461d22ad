-- `proposal::propose` meets its contract: the buffer has room for every cell, and the decision on the new field is the one on the proposal (`propose_by`).
use Rattle.proposal.proofs.Proposal.{propose_by}
use Rattle.proposal.proofs.propose.Goals as goal

pub returns : goal.returns
returns c = propose_by c.args.film.now _ _ _ c.requires.row.0 c.raise_line.ensures c.settle.ensures
