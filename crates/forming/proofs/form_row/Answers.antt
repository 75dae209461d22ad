-- `forming::form_row` meets its contract: each turn writes one more cell at its index (`written_more`), and past the row's end the first row × columns are.
use mathlib.Core.Path.{◌≡◌, refl, ap}
use Prim.Native.Nat.{◌+◌, ◌-◌, ◌*◌, ◌<◌}
use native.Mathlib.Omega.{arith}
use borrow.Author.Rules.{rules}
use Rattle.model.specs.Gauge.{Gauge}
use Rattle.model.specs.File.{cells}
use Rattle.forming.proofs.Written.{written_room, written_more, place_low}
use Rattle.forming.proofs.form_row.Goals as goal

pub bounds-diagonals-at : goal.bounds-diagonals-at
bounds-diagonals-at c =
    place_low c.requires.ringed.0 c.requires.row (ap (λ (g : Gauge). g.columns) c.film.view_is) c.loop-i-test.true
    (written_room _ c.loop-i.invariant c.requires.room).diagonals_room

pub bounds-rights-at : goal.bounds-rights-at
bounds-rights-at c =
    place_low c.requires.ringed.0 c.requires.row (ap (λ (g : Gauge). g.columns) c.film.view_is) c.loop-i-test.true
    (written_room _ c.loop-i.invariant c.requires.room).rights_room

pub bounds-ups-at : goal.bounds-ups-at
bounds-ups-at c =
    place_low c.requires.ringed.0 c.requires.row (ap (λ (g : Gauge). g.columns) c.film.view_is) c.loop-i-test.true
    (written_room _ c.loop-i.invariant c.requires.room).ups_room

pub bounds-sources-at : goal.bounds-sources-at
bounds-sources-at c =
    place_low c.requires.ringed.0 c.requires.row (ap (λ (g : Gauge). g.columns) c.film.view_is) c.loop-i-test.true
    (written_room _ c.loop-i.invariant c.requires.room).sources_room

pub loop-i-preserved : goal.loop-i-preserved
loop-i-preserved c =
    let g : Gauge = c.args.film.now in
    let columns : c.film.inside.head.columns ≡ g.columns = ap (λ (f : Gauge). f.columns) c.film.view_is in
    let low : c.loop-i.i < g.columns = omega (arith, columns) in
    let place : (c.args.row - 1) * g.columns + c.loop-i.i < cells g.rows g.columns = place_low c.requires.ringed.0 c.requires.row refl low (omega arith) in
    let more : (c.args.row - 1) * g.columns + (c.loop-i.i + 1) ≡ (c.args.row - 1) * g.columns + c.loop-i.i + 1 = omega arith in
    rw (columns, more)
    (written_more _ c.loop-i.invariant c.requires.room place c.args.row c.loop-i.i c.requires.row.0 low refl (c.coefficients_at-cell.ensures.own c.requires.ringed.2) (search rules))
