-- `relaxation::relaxed` meets its contract: a step to where the loaded cell is raised to is its relaxation (`loaded_serves_by_index`, `loaded_serves_own`).
use mathlib.Core.Path.{ap}
use Rattle.model.specs.Film.{Film}
use Rattle.relaxation.proofs.Target.{loaded_serves_by_index, loaded_serves_own}
use Rattle.relaxation.proofs.relaxed.Goals as goal

pub returns-clause-by_index : goal.returns-clause-by_index
returns-clause-by_index c = loaded_serves_by_index c.cell_at.ensures c.raise-target.ensures (ap (λ (f : Film). f.ceiling) c.film.view_is) c.stepped.ensures

pub returns-clause-own : goal.returns-clause-own
returns-clause-own c = loaded_serves_own c.cell_at.ensures c.raise-target.ensures (ap (λ (f : Film). f.ceiling) c.film.view_is) c.stepped.ensures
