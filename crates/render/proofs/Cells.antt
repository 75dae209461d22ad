-- The lines of the cells, one after another.
use mathlib.Core.Path.{refl}
use mathlib.Core.List.{List}
use Prim.Native.Nat.{ℕ, ◌+◌, ◌<◌}
use native.Mathlib.Numerals.{add-one}
use native.Mathlib.Omega.{arith}
use Rattle.model.specs.Film.{Film}
use Rattle.model.specs.Report.{cell_line, cell_lines}
use Rattle.model.proofs.Report.{lines_room}
use Rattle.text.specs.Writes.{Fits, Writes}
use Rattle.text.proofs.Writes.{writes_length, writes_then}

module _ (f : Film) (p : List ℕ) {out : List ℕ} {at : ℕ} where
  pub lines_none : Writes (cell_lines f p 0) out at out at
  unfolding cell_lines
  lines_none = record { bytes_are = refl; next_is = omega arith }

  -- one line more
  pub lines_next : (i : ℕ) {next next' : ℕ} {now now' : List ℕ} → Writes (cell_lines f p i) out at now next → Writes (cell_line f p i) now next now' next'
      → Writes (cell_lines f p (i + 1)) out at now' next'
  unfolding cell_lines
  lines_next i v w = rw (add-one i) (writes_then v w)

  -- where all lines have room, the next one has
  pub line_fits : (i n : ℕ) {next : ℕ} {now : List ℕ} → i < n → Fits (cell_lines f p n) out at → Writes (cell_lines f p i) out at now next
      → Fits (cell_line f p i) now next
  line_fits i n h F w =
      record { room = omega (arith, F.room, w.next_is, lines_room f p h, writes_length w) }
