-- `coefficient_writing::put_film` meets its contract: the opening, and behind it the film's own fields, fill the slice (`film_put`).
use mathlib.Core.Path.{ap}
use Rattle.model.specs.Film.{Film}
use Rattle.coefficient_writing.proofs.Film.{film_put}
use Rattle.coefficient_writing.proofs.put_film.Goals as goal

pub returns : goal.returns
returns c = film_put c.args.film.now c.args.out.now c.requires c.put_opening.ensures (rw (ap (λ (f : Film). f.weights) c.film.view_is) at c.put_own.ensures)
