-- `problem::slack` meets its contract: what passes its tests is what `slack_of` asks for.
use mathlib.Core.Path.{ap}
use Rattle.model.specs.Film.{Film, size_of}
use Rattle.problem.proofs.Passed.{point_ready}
use Rattle.problem.proofs.slack.Goals as goal

pub slack_of-requires-clause-limited : goal.slack_of-requires-clause-limited
slack_of-requires-clause-limited c =
    let size = ap (λ (f : Film). size_of f) c.film.view_is in (
      c.args.film.now.weights,
      (point_ready c.args.film.now c.args.field.now c.args.at c.field_tests.ensures c.cell_test-place.ensures c.in_ok-field_tests.was size).limited,
    )

pub slack_of-requires-clause-field : goal.slack_of-requires-clause-field
slack_of-requires-clause-field c =
    let size = ap (λ (f : Film). size_of f) c.film.view_is in
    (point_ready c.args.film.now c.args.field.now c.args.at c.field_tests.ensures c.cell_test-place.ensures c.in_ok-field_tests.was size).field
