-- `gauged_report::count` meets its contract: a film has as many weights as cells, and one that has passed its tests has few.
use mathlib.Core.Path.{ap, ◌∙◌, subst}
use Prim.Native.Nat.{ℕ, ◌≤◌}
use mathlib.Core.Path.{◌≡◌, sym}
use lib.ListN.{length}
use Rattle.model.specs.Gauge.{Gauge}
use Rattle.model.specs.File.{cells}
use Rattle.gauged_report.proofs.Forms.{few}
use Rattle.gauged_report.proofs.count.Goals as goal

pub returns : goal.returns
returns c =
    let counted : length c.film.inside.weights.now ≡ cells c.args.film.now.rows c.args.film.now.columns = ap (λ (g : Gauge). length g.weights) c.film.view_is ∙ c.requires.0.weights_len in
    (counted, subst (λ (k : ℕ). k ≤ 1024) (sym counted) (few c.requires.0 c.requires.1))
