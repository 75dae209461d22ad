-- `report_lines::put_values` meets its contract: pressure, a space, slack and the line feed, one after another, end the cell's line.
use mir.Facts.{to_z-of_z}
use Rattle.model.specs.Report.{decimal, signed}
use Rattle.text.proofs.Writes.{writes_then}
use Rattle.report_lines.proofs.Parts.{line_parts}
use Rattle.report_lines.proofs.put_values.Goals as goal

pub returns : goal.returns
returns c =
    rw (line_parts (decimal c.args.pressure) (signed c.args.slack)) (writes_then c.put_decimal-spaced.ensures (writes_then c.put_byte-next.ensures (writes_then (rw (to_z-of_z c.ranges.slack) at c.put_signed-end.ensures) c.put_byte.ensures)))
