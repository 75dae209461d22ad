-- `gauged_report::put_gauged` meets its contract: what was read is the film that the model reads, whose numbers stand at the starts of the buffers, or its refusal.
use mathlib.Core.Path.{◌≡◌, sym, subst}
use mathlib.Core.List.{List}
use Prim.Native.Nat.{ℕ}
use mir.Syntax.{w32}
use mir.Val.{to_z, of_z}
use borrow.Author.Rules.{rules}
use native.Mathlib.Omega.{arith}
use Rattle.text.specs.Writes.{Fits, Writes}
use Rattle.film_text.proofs.Buffers.{part_length}
use Rattle.gauged_report.proofs.Texts.{read_report, read_room}
use Rattle.gauged_report.proofs.put_gauged.Goals as goal

pub slice_bounds-weights-end : goal.slice_bounds-weights-end
slice_bounds-weights-end c =
    let room = read_room (λ i. (c.type_inv.file i).fits) c.in-Ok.ensures in
    omega (arith, room.0, c.area-n.ensures, c.read.auto.weights)

pub slice_bounds-film-end : goal.slice_bounds-film-end
slice_bounds-film-end c =
    let room = read_room (λ i. (c.type_inv.file i).fits) c.in-Ok.ensures in
    part_length c.read.new.weights (omega (arith, room.0, c.area-n.ensures)) c.read.auto.weights

pub slice_bounds-thicknesses-end : goal.slice_bounds-thicknesses-end
slice_bounds-thicknesses-end c =
    let room = read_room (λ i. (c.type_inv.file i).fits) c.in-Ok.ensures in
    omega (arith, room.1, c.ring-t.ensures, c.read.auto.thicknesses)

pub slice_bounds-film-end-in-Ok : goal.slice_bounds-film-end-in-Ok
slice_bounds-film-end-in-Ok c =
    let room = read_room (λ i. (c.type_inv.file i).fits) c.in-Ok.ensures in
    part_length c.read.new.thicknesses (omega (arith, room.1, c.ring-t.ensures)) c.read.auto.thicknesses

pub put_film-requires-clause-values : goal.put_film-requires-clause-values
put_film-requires-clause-values c =
    let wedge_is : to_z w32 (of_z w32 c.in-Ok.numbers.wedge) ≡ c.in-Ok.numbers.wedge = search rules in
    let has = read_report (λ i. (c.type_inv.file i).fits) c.in-Ok.ensures c.area-n.ensures c.ring-t.ensures wedge_is in
    (has.values, has.passes)

pub put_film-requires-clause-fits : goal.put_film-requires-clause-fits
put_film-requires-clause-fits c =
    let wedge_is : to_z w32 (of_z w32 c.in-Ok.numbers.wedge) ≡ c.in-Ok.numbers.wedge = search rules in
    let has = read_report (λ i. (c.type_inv.file i).fits) c.in-Ok.ensures c.area-n.ensures c.ring-t.ensures wedge_is in
    subst (λ (l : List ℕ). Fits l c.args.out.now 0) has.text c.requires

pub returns-in-Ok : goal.returns-in-Ok
returns-in-Ok c =
    let wedge_is : to_z w32 (of_z w32 c.in-Ok.numbers.wedge) ≡ c.in-Ok.numbers.wedge = search rules in
    let has = read_report (λ i. (c.type_inv.file i).fits) c.in-Ok.ensures c.area-n.ensures c.ring-t.ensures wedge_is in
    subst (λ (l : List ℕ). Writes l c.args.out.now 0 c.put_film.new.out c.put_film.result) (sym has.text) c.put_film.ensures
