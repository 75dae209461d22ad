-- `dominance::dominance_test` meets its contract: the closure that it hands to the search answers as `not_dominant` at each cell.
use Rattle.std.proofs.Common.{◌≡◌, ◌*◌, ap, ◌∙◌, rules}
use Rattle.model.specs.Refusals.{fail_first}
use Rattle.model.specs.Film.{Film}
use Rattle.model.specs.Checks.{not_dominant, dominance_check}
use Rattle.dominance.proofs.dominance_test.Goals as goal

pub returns : goal.returns
unfolding dominance_check
returns c =
    let f : Film = c.args.film.now in
    let columns : c.film.inside.head.columns ≡ f.columns = ap (λ (g : Film). g.columns) c.film.view_is in
    c.first_cell.ensures (not_dominant f) (λ row column i answer e. rw columns (search rules))
    ∙ ap (λ (g : Film). fail_first (not_dominant f) (g.rows * g.columns) 9 (λ i. i)) c.film.view_is
