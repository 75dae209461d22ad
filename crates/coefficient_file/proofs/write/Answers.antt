-- `coefficient_file::write` meets its contract: the length that it asks for is the file's where the shape has passed (`save_tested`), and what passes is written.
use mathlib.Core.Path.{sym, ap, ◌∙◌}
use Rattle.std.proofs.lemmas.Result.{err_from_is_err_and}
use Rattle.model.specs.Refusals.{check_of}
use Rattle.model.specs.Film.{Film}
use Rattle.refusals.proofs.Chain.{passed}
use Rattle.coefficient_writing.specs.Writable.{coefficient_length}
use Rattle.coefficient_file.proofs.Writing.{save_tested, save_ready, save_passed, save_refused}
use Rattle.coefficient_file.proofs.write.Goals as goal

pub returns-in_err-writer_tests : goal.returns-in_err-writer_tests
returns-in_err-writer_tests c =
    let a = c.args in
    let size = c.file_length.ensures ∙ ap (λ (f : Film). coefficient_length f.rows f.columns) c.film.view_is in
    let p = err_from_is_err_and c.from_residual.result c.from_residual.ensures.1 in
    rw (p.1, p.2) (save_refused a.film.now a.out.now (sym (save_tested a.film.now a.out.now size c.writer_tests.ensures) ∙ ap check_of c.in_err-writer_tests.was))

pub put_film-requires : goal.put_film-requires
put_film-requires c =
    let a = c.args in
    let size = c.file_length.ensures ∙ ap (λ (f : Film). coefficient_length f.rows f.columns) c.film.view_is in
    save_ready a.film.now a.out.now (passed (save_tested a.film.now a.out.now size c.writer_tests.ensures) c.in_ok-writer_tests.was)

pub returns : goal.returns
returns c =
    let a = c.args in
    let size = c.file_length.ensures ∙ ap (λ (f : Film). coefficient_length f.rows f.columns) c.film.view_is in
    save_passed a.film.now a.out.now (passed (save_tested a.film.now a.out.now size c.writer_tests.ensures) c.in_ok-writer_tests.was) c.put_film.ensures
