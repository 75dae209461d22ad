-- `report_lines::put_pair` meets its contract: the two numbers with a space between, one after another, are the pair.
use Rattle.text.proofs.Writes.{writes_then}
use Rattle.report_lines.proofs.Parts.{pair_parts}
use Rattle.report_lines.proofs.put_pair.Goals as goal

pub returns : goal.returns
returns c =
    rw (pair_parts c.args.a c.args.b) (writes_then c.put_decimal-spaced.ensures (writes_then c.put_byte-next.ensures c.put_decimal.ensures))
