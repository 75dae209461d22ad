-- `substitution::substitute_line` meets its contract: after each turn the columns from j on hold the model's proposals, whatever field the steps are of (`Returning`).
use mathlib.Core.Path.{sym, ap, ◌∙◌}
use mathlib.Core.List.{List}
use Prim.Native.Nat.{ℕ, ◌+◌, ◌-◌}
use native.Mathlib.Omega.{arith}
use lib.ListN.{get_or}
use Rattle.model.specs.Film.{Film, right_at, weight_at}
use Rattle.model.specs.Estimate.{float_of}
use Rattle.substitution.proofs.Backward.{returning_begin, returning_next, returning_done}
use Rattle.substitution.proofs.substitute_line.Goals as goal

pub loop-j-init : goal.loop-j-init
loop-j-init c = λ f p L e. returning_begin _ _ _ e

pub loop-j-preserved : goal.loop-j-preserved
loop-j-preserved c = λ f p L e.
    let at = c.args.start + (c.loop-j.j - 1) in
    returning_next _ _ _ _ (c.loop-j.invariant f p L e) (omega arith) (omega arith) (omega arith) L.margin_is L.steps_are
    (c.from.ensures ∙ ap (λ (f : Film). float_of (right_at f at)) c.film.view_is ∙ ap (λ (l : List ℕ). float_of (get_or l at 0)) (sym L.rights_are))
    c.substitute-next.ensures
    c.whole_part.ensures
    (ap (λ (f : Film). weight_at f at) c.film.view_is ∙ ap (λ (l : List ℕ). get_or l at 0) (sym L.weights_are))
    c.shaved.ensures

pub returns : goal.returns
returns c = record { is = λ f p L e. returning_done _ _ _ (c.loop-j.invariant f p L (e ∙ c.loop-j.auto.proposal)) c.loop-j-test.false e L.steps_are }
