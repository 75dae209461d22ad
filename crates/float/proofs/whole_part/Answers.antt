-- `float::whole_part` meets its contract. Its tests are those that `whole_part` makes: the literals 0.0 and 33554432.0 are the whole numbers' floats.
-- Assumes nothing.
use mathlib.Core.Path.{sym, ap, ap₂, ◌∙◌}
use mathlib.Core.Bool.{Bool, cond, ◌&&◌}
use lib.Dec.{lit≤}
use lib.Ieee.{of_bits, of_int, le}
use Rattle.model.specs.Limits.{estimate_limit}
use Rattle.model.specs.Estimate.{float_of, floor_of, whole_part}
use Rattle.model.proofs.Estimate.{floor_below}
use Rattle.float.proofs.Floor.{cast_floor}
use Rattle.float.proofs.whole_part.Goals as goal
use Rattle.float.proofs.whole_part.Goals.{else-x-via-then-x+else-x-2, else-x-via-else-x}

pub returns-then-x-2 : goal.returns-then-x-2
unfolding whole_part of_bits of_int
returns-then-x-2 c =
    let small = floor_below estimate_limit c.args.x (lit≤ tt) c.if-x.true c.if-x-2.true in
    c.saturating_f64_to_u32.ensures
    ∙ cast_floor c.args.x c.if-x.true small.0 small.1
    ∙ sym (ap₂ (λ (a b : Bool). cond (a && b) (floor_of c.args.x) 0) c.if-x.true c.if-x-2.true)

pub returns-else-x : goal.returns-else-x
unfolding whole_part of_bits of_int
returns-else-x c =
    elim c.else-x.branch [
      | else-x-via-then-x+else-x-2 w ↦ sym (ap₂ (λ (a b : Bool). cond (a && b) (floor_of c.args.x) 0) w.if-x.true w.if-x-2.false)
      | else-x-via-else-x w ↦ sym (ap (λ (a : Bool). cond (a && le c.args.x (float_of estimate_limit)) (floor_of c.args.x) 0) w.if-x.false)
    ]
