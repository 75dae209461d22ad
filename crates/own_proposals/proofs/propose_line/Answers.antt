-- `own_proposals::propose_line` meets its contract: the line is inside the grid, the proposal is the model's estimate, and the decision on it is the model's too.
use mathlib.Core.Path.{ap, ◌∙◌}
use Rattle.model.specs.Film.{Film}
use Rattle.model.specs.Proposal.{line_start}
use Rattle.own_proposals.proofs.Proposals.{cells_in, own_gives}
use Rattle.own_proposals.proofs.propose_line.Goals as goal

pub returns : goal.returns
returns c =
    own_gives c.args.film.now c.args.field.now c.args.line c.line_start-start.result _ _ _ _
    (c.line_start-start.ensures ∙ ap (λ (f : Film). line_start f c.args.line) c.film.view_is)
    c.estimate.ensures c.propose.ensures (c.unwrap_or.ensures ∙ cells_in c.propose.result)
