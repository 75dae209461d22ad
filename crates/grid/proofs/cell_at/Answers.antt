-- `grid::cell_at` meets its contract: the pull is `pull_at`'s, diagonal and source are read at the index, and the caller grants their limits (`loaded`).
use mathlib.Core.Path.{ap, ◌∙◌}
use borrow.Author.Rules.{rules}
use Rattle.model.specs.Film.{Film, diagonal_at, source_at}
use Rattle.grid.specs.Pull.{pull_by}
use Rattle.grid.proofs.Limited.{loaded}
use Rattle.grid.proofs.cell_at.Goals as goal

pub returns : goal.returns
returns c =
    let v = c.film.view_is in
    loaded c.requires.0 c.requires.1 (ap (λ (f : Film). diagonal_at f c.args.at) v)
    (c.pull_at.ensures.0 ∙ ap (λ (f : Film). pull_by f.columns f.rights f.ups c.args.numbers.now c.args.at) v)
    c.pull_at.ensures.1
    ((search rules) ∙ ap (λ (f : Film). source_at f c.args.at) v)
