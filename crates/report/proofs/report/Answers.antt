-- `report::report` meets its contract: a buffer that could not hold the longest report is refused, and any other holds this one (`report_fits`).
use Rattle.model.specs.File.{Bytes}
use Rattle.report.proofs.Texts.{long_fits, long_written}
use Rattle.report.proofs.report.Goals as goal

pub put_report-requires : goal.put_report-requires
put_report-requires c =
    let bytes : Bytes c.args.file.now = record { byte = λ i. (c.type_inv.file i).fits } in
    long_fits c.args.file.now c.args.out.now c.fail_if.ensures c.in_ok-fail_if.was bytes

pub returns : goal.returns
returns c =
    let bytes : Bytes c.args.file.now = record { byte = λ i. (c.type_inv.file i).fits } in
    long_written c.args.file.now c.args.out.now c.fail_if.ensures c.in_ok-fail_if.was bytes c.put_report.ensures
