-- `render::put_field` meets its contract: the cells' lines and then the peak's are the text; the peak is a cell of the grid, and the line is its own (`peak_line_lem`).
use mathlib.Core.Path.{ap, subst}
use mathlib.Core.List.{List}
use Prim.Native.Nat.{ℕ}
use native.Mathlib.Omega.{arith}
use Rattle.model.specs.Film.{Film}
use Rattle.text.specs.Writes.{Writes}
use Rattle.text.proofs.Writes.{writes_then}
use Rattle.render.proofs.Greatest.{at_peak, peak_line_lem}
use Rattle.render.proofs.put_field.Goals as goal

pub row-requires : goal.row-requires
row-requires c = (at_peak c.args.film.now c.args.field.now c.requires.limited.1.sized (ap (λ (f : Film). f.columns) c.film.view_is) c.requires.field c.peak-top.ensures).placed

pub column-requires : goal.column-requires
column-requires c = (at_peak c.args.film.now c.args.field.now c.requires.limited.1.sized (ap (λ (f : Film). f.columns) c.film.view_is) c.requires.field c.peak-top.ensures).placed

pub offset_bounds-field-top : goal.offset_bounds-field-top
offset_bounds-field-top c =
    let at = at_peak c.args.film.now c.args.field.now c.requires.limited.1.sized (ap (λ (f : Film). f.columns) c.film.view_is) c.requires.field c.peak-top.ensures in
    record { fits = omega (arith, at.placed.1) }

pub bounds-field-top : goal.bounds-field-top
bounds-field-top c = (at_peak c.args.film.now c.args.field.now c.requires.limited.1.sized (ap (λ (f : Film). f.columns) c.film.view_is) c.requires.field c.peak-top.ensures).inside

pub returns : goal.returns
returns c =
    let columns_are = ap (λ (f : Film). f.columns) c.film.view_is in
    let at = at_peak c.args.film.now c.args.field.now c.requires.limited.1.sized columns_are c.requires.field c.peak-top.ensures in
    let line_is = peak_line_lem at columns_are c.row.ensures c.column.ensures c.from.ensures in
    writes_then c.put_cells-next.ensures (subst (λ (l : List ℕ). Writes l c.put_cells-next.new.out c.put_cells-next.result c.put_peak.new.out c.put_peak.result) line_is c.put_peak.ensures)
