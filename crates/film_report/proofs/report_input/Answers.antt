-- The buffer holds as many bytes as decide the report, or all that the reader has.
use Rattle.std.proofs.Common.{arith, length}
use Rattle.film_report.proofs.Prefixes.{front_written}
use Rattle.film_report.proofs.report_input.Goals as goal

pub returns : goal.returns
returns g c =
    front_written c.print_report.result (g.R.Read.remaining c.args.input.now) _ _ (length c.fill.new.bytes) _ (omega (arith, c.fill.auto.bytes)) c.in_ok-n.ensures.first c.print_report.ensures
