-- A turn begins at the field of the tag, in the file's own bytes (`On`); the tag rises to at most 10.
use mathlib.Core.Path.{◌≡◌}
use Prim.Native.Nat.{◌-◌}
use Rattle.view.proofs.Trail.{On}
use Rattle.view.proofs.walk.Given as goal

abbrev pub invariant-loop-step : goal.invariant-loop-step
invariant-loop-step l = (l.view.bytes.now ≡ l.file) × On l.file l.n l.t l.kind l.tag l.view.at

abbrev pub decreases-loop-step : goal.decreases-loop-step
decreases-loop-step l = 10 - l.tag
