-- `forming::form_row` meets its contract: each turn writes one more cell at its index (`written_more`), and past the row's end the first row × columns are.
use Prim.Native.Nat.{◌+◌, ◌-◌, ◌*◌}
use Rattle.forming.proofs.Written.{Written}
use Rattle.forming.proofs.form_row.Given as goal

abbrev pub invariant-loop-i : goal.invariant-loop-i
invariant-loop-i l =
    Written l.film ((l.row - 1) * l.film.columns + l.i) l.initial.diagonals l.initial.rights l.initial.ups l.initial.sources l.diagonals l.rights l.ups
    l.sources
