-- `elimination::eliminate_line` meets its contract: a broken step ends the loop, since each later one of the model is broken too (`going_broken`).
use mathlib.Core.Path.{◌≡◌, sym, ap, ◌∙◌}
use native.Mathlib.Omega.{arith}
use mathlib.Core.Bool.{false}
use Rattle.model.specs.Film.{Film}
use Rattle.model.specs.Estimate.{is_broken}
use Rattle.chain.specs.Line.{elimination_of}
use Rattle.elimination.proofs.Forward.{going_begin, going_next, going_broken}
use Rattle.elimination.proofs.eliminate_line.Goals as goal

pub loop-j-init : goal.loop-j-init
loop-j-init c = going_begin _ _ _ _

pub returns-then-is_broken : goal.returns-then-is_broken
returns-then-is_broken c =
    going_broken _ _ _ _ c.loop-j.invariant c.step-here.ensures (omega (arith, ap (λ (f : Film). f.columns) c.film.view_is))
    (sym c.is_broken.ensures ∙ c.if-is_broken.true)

pub loop-j-preserved : goal.loop-j-preserved
loop-j-preserved c =
    let whole : is_broken (elimination_of c.step-here.result) ≡ false = sym c.is_broken.ensures ∙ c.if-is_broken.false in
    going_next _ _ _ _ c.loop-j.invariant c.step-here.ensures (omega (arith, ap (λ (f : Film). f.columns) c.film.view_is)) whole
    (c.handed_on-preceding.ensures.whole whole)
