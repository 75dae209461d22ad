-- `problem::relax` meets its contract: what passes its tests is what `relax_cell` asks for.
use mathlib.Core.Path.{ap}
use Rattle.model.specs.Film.{Film, size_of}
use Rattle.problem.proofs.Passed.{point_ready}
use Rattle.problem.proofs.relax.Goals as goal

pub relax_cell-requires-clause-limited : goal.relax_cell-requires-clause-limited
relax_cell-requires-clause-limited c =
    let size = ap (λ (f : Film). size_of f) c.film.view_is in
    (point_ready c.args.film.now c.args.field.now c.args.at c.field_tests.ensures c.cell_test-place.ensures c.in_ok-field_tests.was size).limited

pub relax_cell-requires-clause-field : goal.relax_cell-requires-clause-field
relax_cell-requires-clause-field c =
    let size = ap (λ (f : Film). size_of f) c.film.view_is in
    (point_ready c.args.film.now c.args.field.now c.args.at c.field_tests.ensures c.cell_test-place.ensures c.in_ok-field_tests.was size).field
