-- `render::put_cells` meets its contract: after each turn the first i lines are written, and where all lines have room the next one has (`line_fits`).
use Rattle.model.specs.Report.{cell_lines}
use Rattle.text.specs.Writes.{Writes}
use Rattle.render.proofs.put_cells.Given as goal

abbrev pub invariant-loop-i : goal.invariant-loop-i
invariant-loop-i l = Writes (cell_lines l.film l.field l.i) l.initial.out l.at l.out l.next
