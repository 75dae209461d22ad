-- `file::read` meets its contract: buffers and fields are tested before 9 (`load_parts`), and what passes is read.
use mathlib.Core.Path.{sym, ap, ◌∙◌}
use Rattle.std.proofs.lemmas.Result.{err_from_is_err_and}
use Rattle.model.specs.Refusals.{check_of}
use Rattle.refusals.proofs.Chain.{passed}
use Rattle.file.proofs.Reading.{opening_passes, load_opened, load_refused}
use Rattle.file.proofs.read.Goals as goal

pub returns-in_err-opening_test : goal.returns-in_err-opening_test
returns-in_err-opening_test c =
    let a = c.args in
    let p = err_from_is_err_and c.from_residual.result c.from_residual.ensures.1 in
    rw (p.1, p.2) (load_refused a.file.now a.weights.now a.thicknesses.now (sym c.opening_test.ensures ∙ ap check_of c.in_err-opening_test.was))

pub read_fields-requires-clause-fields : goal.read_fields-requires-clause-fields
read_fields-requires-clause-fields c =
    let a = c.args in
    (opening_passes a.file.now a.weights.now a.thicknesses.now (passed c.opening_test.ensures c.in_ok-opening_test.was)).fields

pub read_fields-requires-clause-buffers : goal.read_fields-requires-clause-buffers
read_fields-requires-clause-buffers c =
    let a = c.args in
    let o = opening_passes a.file.now a.weights.now a.thicknesses.now (passed c.opening_test.ensures c.in_ok-opening_test.was) in
    (o.weights_len, o.thicknesses_len)

pub returns : goal.returns
returns c =
    let a = c.args in
    load_opened a.file.now a.weights.now a.thicknesses.now (passed c.opening_test.ensures c.in_ok-opening_test.was) c.read_fields.ensures
