-- `margin::margin` meets its contract: a film has at most 1024 cells, and the widened weights are its weights.
use mathlib.Core.Path.{◌≡◌, ap, ◌∙◌}
use lib.ListN.{length}
use Rattle.model.specs.Film.{Film, size_of}
use Rattle.grid.proofs.Limited.{size_low}
use Rattle.margin.proofs.LeastMargin.{ones_prefix}
use Rattle.margin.proofs.margin.Goals as goal

pub greatest_margin-requires-clause-ones : goal.greatest_margin-requires-clause-ones
greatest_margin-requires-clause-ones c =
    let s = c.requires.1.limited.sized in
    let e : length c.film.inside.weights.now ≡ size_of c.args.film.now = ap (λ (f : Film). length f.weights) c.film.view_is ∙ s.weights_len in
    rw e (ones_prefix _ 1024 (size_low s))
