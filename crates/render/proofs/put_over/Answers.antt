-- `render::put_over` meets its contract: the answer's line and then the line of the cell's row and column, one after the other, are the text (`writes_then`).
use Rattle.text.proofs.Writes.{writes_then}
use Rattle.render.proofs.put_over.Goals as goal

pub returns : goal.returns
returns c =
    writes_then c.put_counts-next.ensures (rw (c.row.ensures, c.column.ensures) at c.put_place.ensures)
