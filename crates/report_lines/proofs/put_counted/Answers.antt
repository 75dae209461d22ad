-- `report_lines::put_counted` meets its contract: the word, a space and the two numbers with their line's end, one after another, are the line.
use Rattle.report_lines.specs.Lines.{pair}
use Rattle.text.proofs.Writes.{writes_then}
use Rattle.report_lines.proofs.Parts.{line_parts}
use Rattle.report_lines.proofs.put_counted.Goals as goal

pub returns : goal.returns
returns c =
    rw (line_parts c.args.word.now (pair c.args.a c.args.b)) (writes_then c.put_bytes-spaced.ensures (writes_then c.put_byte-next.ensures c.put_place.ensures))
