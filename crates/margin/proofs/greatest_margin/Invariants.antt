-- `margin::greatest_margin` meets its contract. The loop has seen the cells below i.
use mathlib.Core.Path.{◌≡◌}
use Rattle.model.specs.Lists.{greatest}
use Rattle.model.specs.Margin.{margin_at}
use Rattle.margin.proofs.greatest_margin.Given as goal

abbrev pub invariant-loop-i : goal.invariant-loop-i
invariant-loop-i l = l.margin ≡ greatest (margin_at l.film) l.i
