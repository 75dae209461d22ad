-- `headers::header_test` meets its contract: its tests are those of `field_at`, in its order; where the header is there, they are made of the
-- byte and the word that stand in it.
use mathlib.Core.Path.{◌∙◌}
use Prim.Native.Nat.{◌+◌}
use Rattle.std.proofs.lemmas.Result.{err_from_is_err_and}
use Rattle.model.specs.Fields.{field_at}
use Rattle.refusals.proofs.Chain.{goes_on, refuses}
use Rattle.words.proofs.Rest.{word_from}
use Rattle.headers.proofs.header_test.Goals as goal

pub returns-in_err-fail_if : goal.returns-in_err-fail_if
unfolding field_at
returns-in_err-fail_if c =
    let p = err_from_is_err_and c.from_residual.result c.from_residual.ensures.1 in
    rw (p.1, p.2) (refuses c.fail_if.ensures _ c.in_err-fail_if.was)

pub returns-in_err-fail_if-2 : goal.returns-in_err-fail_if-2
unfolding field_at
returns-in_err-fail_if-2 c =
    let p = err_from_is_err_and c.from_residual-in_err-fail_if-2.result c.from_residual-in_err-fail_if-2.ensures.1 in
    rw (p.1, p.2) (goes_on c.fail_if.ensures c.in_ok-fail_if.was (refuses c.fail_if-2.ensures _ c.in_err-fail_if-2.was))

pub returns-in_err-fail_if-3 : goal.returns-in_err-fail_if-3
unfolding field_at
returns-in_err-fail_if-3 c =
    let length = c.first_word-length.ensures ∙ word_from c.args.file.now (c.args.at + 1) in
    let p = err_from_is_err_and c.from_residual-in_err-fail_if-3.result c.from_residual-in_err-fail_if-3.ensures.1 in
    rw (p.1, p.2)
    (goes_on c.fail_if.ensures c.in_ok-fail_if.was
    (goes_on c.fail_if-2.ensures c.in_ok-fail_if-2.was
    (refuses (rw length at c.fail_if-3.ensures) _ c.in_err-fail_if-3.was)))

pub returns : goal.returns
unfolding field_at
returns c =
    let length = c.first_word-length.ensures ∙ word_from c.args.file.now (c.args.at + 1) in
    goes_on c.fail_if.ensures c.in_ok-fail_if.was
    (goes_on c.fail_if-2.ensures c.in_ok-fail_if-2.was
    (goes_on (rw length at c.fail_if-3.ensures) c.in_ok-fail_if-3.was c.fail_if-4.ensures))
