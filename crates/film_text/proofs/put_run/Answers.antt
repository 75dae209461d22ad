-- `film_text::put_run` meets its contract: the head's line and then the answer's text, of the run that the model's report makes, are the film's report.
use Rattle.film_text.proofs.Answer.{run_reports, rest_fits, rest_written}
use Rattle.film_text.proofs.put_run.Goals as goal

pub put_answer-requires-clause-field : goal.put_answer-requires-clause-field
put_answer-requires-clause-field c =
    let reported = run_reports c.args.film.now c.requires.accepted.0 c.requires.accepted.1 c.run-answer.ensures in
    (reported.len, reported.inside)

pub put_answer-requires-clause-fits : goal.put_answer-requires-clause-fits
put_answer-requires-clause-fits c =
    rest_fits c.args.film.now c.requires.accepted.0 c.requires.accepted.1 c.run-answer.ensures c.put_head-next.ensures c.requires.fits

pub returns : goal.returns
returns c =
    rest_written c.args.film.now c.requires.accepted.0 c.requires.accepted.1 c.run-answer.ensures c.put_head-next.ensures c.put_answer.ensures
