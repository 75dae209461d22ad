-- `report_lines::put_peak` meets its contract: the word, the place, a space and the pressure, one after another, are the peak's line.
use Rattle.text.proofs.Writes.{writes_then}
use Rattle.report_lines.proofs.Parts.{peak_parts}
use Rattle.report_lines.proofs.put_peak.Goals as goal

pub returns : goal.returns
returns c =
    rw (peak_parts c.args.row c.args.column c.args.pressure) (writes_then c.put_bytes-place.ensures (writes_then c.put_pair-spaced.ensures (writes_then c.put_byte-next.ensures c.put_last.ensures)))
