-- `report_lines::put_cell` meets its contract: the pair, a space and the values, one after another, are the cell's line.
use mir.Facts.{to_z-of_z}
use Rattle.model.specs.Report.{◌␣◌, decimal, signed}
use Rattle.report_lines.specs.Lines.{pair}
use Rattle.text.proofs.Writes.{writes_then}
use Rattle.report_lines.proofs.Parts.{line_parts}
use Rattle.report_lines.proofs.put_cell.Goals as goal

pub returns : goal.returns
returns c =
    rw (line_parts (pair c.args.row c.args.column) (decimal c.args.pressure ␣ signed c.args.slack)) (writes_then c.put_pair-spaced.ensures (writes_then c.put_byte-next.ensures (rw (to_z-of_z c.ranges.slack) at c.put_values.ensures)))
