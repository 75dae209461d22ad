-- `fields::tested` meets its contract: whatever field has that length, and whose values the closure tests, is tested.
use Rattle.std.proofs.lemmas.Result.{err_from_is_err_and}
use Rattle.model.proofs.Fields.{header}
use Rattle.refusals.proofs.Chain.{passed}
use Rattle.fields.proofs.Tags.{body_there, field_refused, values_refused, field_tried}
use Rattle.fields.proofs.tested.Goals as goal

pub returns-in_err-header_test : goal.returns-in_err-header_test
returns-in_err-header_test g c f e d =
    let p = err_from_is_err_and c.from_residual.result c.from_residual.ensures.1 in
    rw (p.1, p.2) (field_refused f c.args.file.now c.args.at c.args.tag e c.header_test.ensures c.in_err-header_test.was)

pub values-requires : goal.values-requires
values-requires g c = c.requires.callable (header _ _ _ _ (passed c.header_test.ensures c.in_ok-header_test.was)).fits

pub returns-in_err-values : goal.returns-in_err-values
returns-in_err-values g c f e d =
    let p = err_from_is_err_and c.from_residual-in_err-values.result c.from_residual-in_err-values.ensures.1 in
    let there = body_there f c.args.file.now c.args.at c.args.tag e c.header_test.ensures c.in_ok-header_test.was in
    rw (p.1, p.2) (values_refused f c.args.file.now c.args.at c.args.tag e c.header_test.ensures c.in_ok-header_test.was (d there _ c.values.ensures) c.in_err-values.was)

pub returns : goal.returns
returns g c f e d =
    let there = body_there f c.args.file.now c.args.at c.args.tag e c.header_test.ensures c.in_ok-header_test.was in
    field_tried f c.args.file.now c.args.at c.args.tag e c.header_test.ensures c.in_ok-header_test.was (d there _ c.values.ensures) c.in_ok-values.was
