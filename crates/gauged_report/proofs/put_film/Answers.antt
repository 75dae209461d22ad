-- `gauged_report::put_film` meets its contract: the coefficients are formed at the starts of buffers that hold any film's, and with the weights they are the
-- formed film, which its tests have accepted.
use mathlib.Core.Path.{sym, ap, ◌∙◌, subst}
use Rattle.model.specs.Gauge.{Gauge}
use Rattle.model.specs.File.{cells}
use Rattle.model.specs.Accepted.{Accepted}
use Rattle.model.proofs.Forming.{formed_accepted}
use Rattle.film_text.proofs.Buffers.{take_zeros}
use Rattle.gauged_report.proofs.Forms.{ringed_film, lent_formed}
use Rattle.gauged_report.proofs.put_film.Goals as goal

pub form-requires-clause-ringed : goal.form-requires-clause-ringed
form-requires-clause-ringed c = ringed_film c.requires.values.0 c.requires.values.1

pub put_run-requires-clause-accepted : goal.put_run-requires-clause-accepted
put_run-requires-clause-accepted c =
    let film_is = lent_formed c.requires.values.0 c.film.view_is c.count-n.ensures.0 c.form.ensures in
    (subst Accepted (sym film_is) (formed_accepted _ c.requires.values.0 c.requires.values.1), take_zeros _ 1024 c.count-n.ensures.1 (c.count-n.ensures.0 ∙ sym (ap (λ (g : Gauge). cells g.rows g.columns) c.film.view_is)))
