-- `writing::put_film` meets its contract: five fields, each behind the one before, and then the steps, fill the slice (`film_put`).
use mathlib.Core.Path.{◌≡◌, ◌∙◌, sym, ap, subst}
use borrow.Author.Rules.{rules}
use mir.Syntax.{w32}
use mir.Val.{to_z, of_z}
use Rattle.model.specs.Gauge.{Gauge}
use Rattle.model.specs.Bytes.{unsigned_of}
use Rattle.model.specs.FileCalls.{gauge_of}
use Rattle.model.specs.File.{file_of}
use Rattle.writing.specs.Writable.{Writable}
use Rattle.writing.proofs.Film.{film_put}
use Rattle.writing.proofs.put_film.Goals as goal

pub returns : goal.returns
returns c =
    let film : Gauge = let i = c.film.inside in gauge_of i.head i.weights.now i.thicknesses.now i.wedge i.steps in
    let writable : Writable film c.args.out.now = subst (λ (g : Gauge). Writable g c.args.out.now) (sym c.film.view_is) c.requires in
    let wedge : to_z w32 (of_z w32 film.wedge) ≡ film.wedge = search rules in
    let wedge_bits : c.unsigned.result ≡ unsigned_of film.wedge = c.unsigned.ensures ∙ ap unsigned_of wedge in
    film_put film c.args.out.now writable c.put_shape.ensures c.put_number.ensures c.put_weights.ensures c.put_thicknesses.ensures
    (rw wedge_bits at c.put_number-2.ensures)
    c.put_steps.ensures
    ∙ ap file_of c.film.view_is
