-- `view::walk` meets its contract: the walk begins at the file's start, a turn that another follows leads to that one's field, and one that none follows ends it (`Trail`).
use mathlib.Core.Path.{refl, ap, ◌∙◌}
use native.Mathlib.Omega.{arith}
use Rattle.view.proofs.Trail.{begins, goes, stops}
use Rattle.view.proofs.walk.Goals as goal

pub loop-step-init : goal.loop-step-init
loop-step-init c = (refl, begins c.args.file.now c.args.n c.args.t c.args.kind)

pub returns-in-None : goal.returns-in-None
returns-in-None c =
    let a = c.args in
    stops a.file.now a.n a.t a.kind c.requires c.loop-step.invariant.1 _ (rw c.loop-step.invariant.0 at c.viewed.ensures) c.in_ok-step.was c.in-None.is

pub loop-step-smaller : goal.loop-step-smaller
loop-step-smaller c =
    let a = c.args in
    let on = goes a.file.now a.n a.t a.kind c.requires c.loop-step.invariant.1 _ (rw c.loop-step.invariant.0 at c.viewed.ensures) c.in_ok-step.was c.in-Some.is in
    omega (arith, on.1, on.0.high)

pub loop-step-preserved : goal.loop-step-preserved
loop-step-preserved c =
    let a = c.args in
    let on = goes a.file.now a.n a.t a.kind c.requires c.loop-step.invariant.1 _ (rw c.loop-step.invariant.0 at c.viewed.ensures) c.in_ok-step.was c.in-Some.is in
    (ap (λ b. b.now) c.moved-view.ensures.0 ∙ c.loop-step.invariant.0, rw c.moved-view.ensures.1 on.0)
