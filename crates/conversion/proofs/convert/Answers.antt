-- `conversion::convert` meets its contract: its tests are the model's (`convert_tested`), of what passes them the formed film's file is written,
-- and a refusal leaves the slice as it was.
use mathlib.Core.Path.{sym, ap, ◌∙◌}
use Rattle.std.proofs.lemmas.Result.{err_from_is_err_and}
use Rattle.model.specs.Refusals.{check_of}
use Rattle.refusals.proofs.Chain.{passed}
use Rattle.conversion.proofs.Calls.{convert_tested, convert_ready, convert_passed, convert_refused}
use Rattle.conversion.proofs.convert.Goals as goal

pub put_formed-requires-clause-measured : goal.put_formed-requires-clause-measured
put_formed-requires-clause-measured c =
    let g = c.args.film.now in
    let tested = convert_tested g c.args.out.now c.film.view_is c.file_length.ensures c.gauge_tests.ensures in
    (convert_ready g c.args.out.now (passed tested c.in_ok-gauge_tests.was)).0

pub put_formed-requires-clause-room : goal.put_formed-requires-clause-room
put_formed-requires-clause-room c =
    let g = c.args.film.now in
    let tested = convert_tested g c.args.out.now c.film.view_is c.file_length.ensures c.gauge_tests.ensures in
    (convert_ready g c.args.out.now (passed tested c.in_ok-gauge_tests.was)).1

pub returns : goal.returns
returns c =
    let g = c.args.film.now in
    let tested = convert_tested g c.args.out.now c.film.view_is c.file_length.ensures c.gauge_tests.ensures in
    convert_passed g c.args.out.now (passed tested c.in_ok-gauge_tests.was) c.put_formed.ensures

pub returns-in_err-gauge_tests : goal.returns-in_err-gauge_tests
returns-in_err-gauge_tests c =
    let g = c.args.film.now in
    let tested = convert_tested g c.args.out.now c.film.view_is c.file_length.ensures c.gauge_tests.ensures in
    let p = err_from_is_err_and c.from_residual.result c.from_residual.ensures.1 in
    rw (p.1, p.2) (convert_refused g c.args.out.now (sym tested ∙ ap check_of c.in_err-gauge_tests.was))
