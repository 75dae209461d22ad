-- `checks::film_fits` meets its contract: the film's slices are those of `film_fits`.
use mathlib.Core.Path.{sym}
use Rattle.model.specs.Checks.{film_fits}
use Rattle.checks.proofs.film_fits.Goals as goal

pub returns : goal.returns
unfolding film_fits
returns c = rw (sym c.film.view_is, c.area-n.ensures)
