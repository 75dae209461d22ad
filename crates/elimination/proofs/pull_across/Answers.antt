-- `elimination::pull_across` meets its contract: the two vertical products, read by index, are those of the film (`across_found`).
use mathlib.Core.Path.{ap, ◌∙◌}
use Rattle.model.specs.Film.{Film}
use Rattle.grid.specs.Pull.{back_of, ahead_of}
use Rattle.elimination.proofs.Cells.{across_found}
use Rattle.elimination.proofs.pull_across.Goals as goal

pub returns : goal.returns
returns c =
    let v = c.film.view_is in
    across_found c.requires.0 c.requires.1
    (c.pull_back.ensures.is ∙ ap (λ (f : Film). back_of f.ups c.args.field.now c.args.at f.columns) v)
    (c.pull_ahead.ensures.is ∙ ap (λ (f : Film). ahead_of f.ups c.args.field.now c.args.at f.columns) v)
