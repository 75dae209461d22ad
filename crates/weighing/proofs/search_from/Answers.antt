-- `weighing::search_from` meets its contract: the relaxations are the model's search (`finds`), and where it is Done the field's numbers fit weights (`fits`).
use mathlib.Core.Path.{sym, ap, ◌∙◌}
use Rattle.std.proofs.lemmas.Result.{err_from_is_err_and}
use Rattle.model.specs.Refusals.{check_of}
use Rattle.model.proofs.Checks.{refused_passes}
use Rattle.refusals.proofs.Chain.{passed}
use Rattle.weighing.proofs.Searches.{finds, found_is, fits}
use Rattle.weighing.proofs.search_from.Goals as goal

pub put_found-requires : goal.put_found-requires
put_found-requires c =
    let a = c.args in
    let f = fits a.head a.diagonals.now a.rights.now a.ups.now a.weights.now c.requires.zeros c.relaxations-ran.ensures c.outcome.ensures c.requires.searchable.0 (ap check_of c.in_ok-outcome.was) in
    (f.0 ∙ sym c.requires.searchable.1, f.1)

pub returns : goal.returns
returns c =
    let a = c.args in
    record {
      finds = sym (passed (finds a.head a.diagonals.now a.rights.now a.ups.now a.weights.now c.requires.zeros c.relaxations-ran.ensures c.outcome.ensures) c.in_ok-outcome.was);
      weights_are = λ p. c.put_found.ensures ∙ found_is a.head a.diagonals.now a.rights.now a.ups.now a.weights.now c.requires.zeros c.relaxations-ran.ensures c.outcome.ensures;
    }

pub returns-in_err-outcome : goal.returns-in_err-outcome
returns-in_err-outcome c =
    let a = c.args in
    let p = err_from_is_err_and c.from_residual.result c.from_residual.ensures.1 in
    rw (p.1, p.2)
    (record {
      finds = sym (ap check_of c.in_err-outcome.was) ∙ finds a.head a.diagonals.now a.rights.now a.ups.now a.weights.now c.requires.zeros c.relaxations-ran.ensures c.outcome.ensures;
      weights_are = refused_passes;
    })
