-- `report_lines::put_last` meets its contract: the number and the line feed, one after the other, are the line's end.
use Rattle.text.proofs.Writes.{writes_then}
use Rattle.report_lines.proofs.put_last.Goals as goal

pub returns : goal.returns
returns c =
    writes_then c.put_decimal-end.ensures c.put_byte.ensures
