-- `own_proposals::ready` meets its contract: without a budget or with proposals off nothing changes (`ready_same`), and the lines are proposed otherwise.
use borrow.Author.Rules.{rules}
use Rattle.own_proposals.proofs.Proposals.{ready_on}
use Rattle.own_proposals.proofs.ready.Goals as goal

pub returns : goal.returns
returns c = ready_on c.args.film.now c.args.budget c.args.proposals c.args.field.now _ _ (search rules) (search rules) c.propose_lines.ensures
