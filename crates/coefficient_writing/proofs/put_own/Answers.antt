-- `coefficient_writing::put_own` meets its contract: four fields, each behind the one before (`own_put`).
use mathlib.Core.Path.{◌∙◌, sym, ap, subst}
use lib.Seq.{sets}
use Rattle.model.specs.Film.{Film, film_of}
use Rattle.coefficient_writing.specs.Writable.{own_bytes, Numbers}
use Rattle.coefficient_writing.proofs.Film.{own_put}
use Rattle.coefficient_writing.proofs.put_own.Goals as goal

pub returns : goal.returns
returns c =
    let film : Film = let i = c.film.inside in film_of i.head i.weights.now i.diagonals.now i.rights.now i.ups.now i.sources.now in
    let numbers : Numbers c.args.n film = subst (λ (f : Film). Numbers c.args.n f) (sym c.film.view_is) c.requires.numbers.0 in
    own_put film c.args.n c.args.at c.args.out.now numbers c.put_longs.ensures c.put_longs-2.ensures c.put_longs-3.ensures c.put_sources.ensures
    ∙ ap (λ (f : Film). sets c.args.out.now c.args.at (own_bytes f)) c.film.view_is
