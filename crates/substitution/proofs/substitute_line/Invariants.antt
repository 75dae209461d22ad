-- `substitution::substitute_line` meets its contract: after each turn the columns from j on hold the model's proposals, whatever field the steps are of (`Returning`).
use mathlib.Core.Path.{◌≡◌}
use mathlib.Core.List.{List}
use Prim.Native.Nat.{ℕ}
use lib.ListN.{length}
use Rattle.model.specs.Film.{Film}
use Rattle.substitution.specs.Line.{OfLine}
use Rattle.substitution.proofs.Backward.{Returning}
use Rattle.substitution.proofs.substitute_line.Given as goal

abbrev pub invariant-loop-j : goal.invariant-loop-j
invariant-loop-j l =
    (f : Film) (p : List ℕ) → OfLine f p l.film l.steps l.start l.margin → f.columns ≡ length l.initial.proposal
    → Returning f p l.start l.j l.proposal l.next
