-- `estimate::estimate` meets its contract: a broken line proposes zeros (`broken_zeros`), any other what the way back makes of the steps that were kept.
use mathlib.Core.Path.{refl, sym, ◌∙◌}
use native.Mathlib.Omega.{arith}
use Rattle.substitution.proofs.Backward.{broken_zeros}
use Rattle.estimate.proofs.estimate.Goals as goal

pub returns-then-eliminate_line : goal.returns-then-eliminate_line
returns-then-eliminate_line c =
    let E = c.if-eliminate_line.ensures in
    c.fill.ensures.after (λ y e. e) ∙ broken_zeros _ _ _ c.requires.row.1 (sym E.broken)

pub returns-else-eliminate_line : goal.returns-else-eliminate_line
returns-else-eliminate_line c =
    c.substitute_line.ensures.is c.args.film.now c.args.field.now
    record { weights_are = refl; rights_are = refl; margin_is = sym c.requires.margin; steps_are = c.if-eliminate_line.ensures }
    (omega (arith, c.substitute_line.auto, c.requires.row.1))
