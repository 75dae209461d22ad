-- `report_lines::put_place` meets its contract: the pair and the line feed, one after the other, are the line.
use Rattle.text.proofs.Writes.{writes_then}
use Rattle.report_lines.proofs.put_place.Goals as goal

pub returns : goal.returns
returns c =
    writes_then c.put_pair-end.ensures c.put_byte.ensures
