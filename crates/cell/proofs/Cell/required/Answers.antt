-- `cell::Cell::required` meets its contract: a cell whose slack is not negative at 0 requires 0, and any other the quotient of the definition.
use native.Mathlib.Omega.{arith}
use native.Mathlib.Nat.{mul-zero}
use mathlib.Core.Path.{ap}
use Prim.Native.Nat.{ℕ, ◌+◌, ◌-◌, ◌/◌, ◌≤◌}
use Rattle.model.specs.Relaxation.{required_for}
use Rattle.cell.specs.Cell.{positive_terms, negative_terms}
use Rattle.cell.proofs.Limits.{negative_terms_small, met_required}
use Rattle.cell.proofs.Cell.required.Goals as goal

pub returns-then-negative-positive : goal.returns-then-negative-positive
returns-then-negative-positive c =
    let s = c in
    let l : required_for s.args.self.diagonal s.args.self.pull s.args.self.source ≤ 0 = met_required _ s.requires 0 (omega arith) in
    omega arith

pub overflow_add-result : goal.overflow_add-result
overflow_add-result c = omega (arith, negative_terms_small _ c.requires, c.requires)

pub returns : goal.returns
unfolding positive_terms negative_terms
returns c =
    let s = c in
    let d = s.args.self.diagonal in
    ap (λ (x : ℕ). (x + (d - 1)) / d) (omega (arith, mul-zero d))
