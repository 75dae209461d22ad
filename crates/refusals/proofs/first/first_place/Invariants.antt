-- `refusals::first::first_place` meets its contract: a search (`Searched`) by any test that `bad` decides.
use Rattle.std.proofs.Common.{Bool, ℕ}
use Rattle.refusals.specs.Tests.{Decides}
use Rattle.refusals.proofs.Search.{Searched}
use Rattle.refusals.proofs.first.first_place.Given as goal

abbrev pub invariant-loop-i : goal.invariant-loop-i
invariant-loop-i g l = (test : ℕ → Bool) → Decides l.n (goal.F-post g l.bad) test → Searched test l.n l.i
