-- `limits::coefficient_test` meets its contract: the closure that it hands to the search answers as `bad_coefficient` at each cell.
use Rattle.std.proofs.Common.{◌≡◌, ◌*◌, ap, ◌∙◌, rules}
use Rattle.model.specs.Refusals.{fail_first}
use Rattle.model.specs.Film.{Film}
use Rattle.model.specs.Checks.{bad_coefficient, coefficient_check}
use Rattle.limits.proofs.coefficient_test.Goals as goal

pub returns : goal.returns
unfolding coefficient_check
returns c =
    let f : Film = c.args.film.now in
    let columns : c.film.inside.head.columns ≡ f.columns = ap (λ (g : Film). g.columns) c.film.view_is in
    c.first_cell.ensures (bad_coefficient f) (λ row column i answer e. rw columns (search rules))
    ∙ ap (λ (g : Film). fail_first (bad_coefficient f) (g.rows * g.columns) 14 (λ i. i)) c.film.view_is
