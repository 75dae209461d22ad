-- `margin::greatest_margin` meets its contract. The loop has seen the cells below i.
use mathlib.Core.Path.{◌≡◌, ap, ◌∙◌}
use mathlib.Core.List.{List}
use Prim.Native.Nat.{ℕ}
use native.Mathlib.Omega.{arith}
use lib.ListN.{length}
use Rattle.model.specs.Lists.{greatest}
use Rattle.model.specs.Film.{size_of}
use Rattle.model.specs.Margin.{margin_at, margin}
use Rattle.margin.proofs.greatest_margin.Goals as goal

pub returns : goal.returns
unfolding margin
returns c =
    let e : c.loop-i.i ≡ size_of c.args.film.now = omega (arith, ap (λ (l : List ℕ). length l) c.requires.accepted.1, c.requires.accepted.0.1.limited.sized.weights_len) in
    c.loop-i.invariant ∙ ap (greatest (margin_at c.args.film.now)) e
