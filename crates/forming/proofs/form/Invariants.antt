-- `forming::form` meets its contract: after each turn the cells of the rows so far are written (`Written`), and past the last row all are.
use Prim.Native.Nat.{◌*◌}
use Rattle.forming.proofs.Written.{Written}
use Rattle.forming.proofs.form.Given as goal

abbrev pub invariant-loop-i : goal.invariant-loop-i
invariant-loop-i l =
    Written l.film (l.i * l.film.columns) l.initial.diagonals l.initial.rights l.initial.ups l.initial.sources l.diagonals l.rights l.ups l.sources
