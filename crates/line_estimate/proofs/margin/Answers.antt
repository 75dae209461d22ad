-- `line_estimate::margin` meets its contract: its tests are the model's, in its order.
use mathlib.Core.Path.{◌≡◌, sym, ap, ◌∙◌}
use mathlib.Core.Bool.{true}
use Rattle.model.specs.Refusals.{pass}
use Rattle.model.specs.Checks.{film_check}
use Rattle.model.specs.Result.{answered}
use Rattle.model.proofs.Checks.{check_passes}
use Rattle.checks.proofs.Own.{film_own}
use Rattle.line_estimate.proofs.margin.Goals as goal

pub margin-requires : goal.margin-requires
margin-requires c =
    let film = c.args.film.now in
    (film.sources, (check_passes film true pass pass pass (film_own film ∙ sym c.in_ok-film_tests.ensures)).film)

pub returns : goal.returns
returns c =
    let film = c.args.film.now in
    let passes : film_check film ≡ pass = film_own film ∙ sym c.in_ok-film_tests.ensures in
    rw passes (ap answered c.margin.ensures)
