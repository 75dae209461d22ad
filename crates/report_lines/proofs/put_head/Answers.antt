-- `report_lines::put_head` meets its contract: both words and the numbers after them, one after another, are the head's line.
use Rattle.text.proofs.Writes.{writes_then}
use Rattle.report_lines.proofs.Parts.{head_parts}
use Rattle.report_lines.proofs.put_head.Goals as goal

pub returns : goal.returns
returns c =
    rw (head_parts c.args.rows c.args.columns c.args.ceiling) (writes_then c.put_bytes-shape.ensures (writes_then c.put_pair-spaced.ensures (writes_then c.put_bytes-next.ensures c.put_last.ensures)))
