-- `limits::bad_coefficient` meets its contract: its six tests are those of `bad_coefficient`, and the cell's index gives back its row and column.
use mathlib.Core.Path.{◌≡◌, sym, ap}
use Prim.Native.Nat.{◌+◌, ◌-◌}
use native.Mathlib.Omega.{arith}
use borrow.Author.Rules.{rules}
use Rattle.model.specs.Film.{Film}
use Rattle.model.specs.Checks.{bad_coefficient}
use Rattle.model.proofs.Sides.{Cell, index_row, index_column}
use Rattle.limits.proofs.bad_coefficient.Goals as goal

pub returns : goal.returns
unfolding bad_coefficient
returns c =
    let a = c.args in
    let h = c.film.inside.head in
    let rows : h.rows ≡ a.film.now.rows = ap (λ (f : Film). f.rows) c.film.view_is in
    let columns : h.columns ≡ a.film.now.columns = ap (λ (f : Film). f.columns) c.film.view_is in
    let w : Cell h.rows h.columns a.row a.column = omega (arith, c.requires.inside, rows, columns) in
    let row : a.row - 1 + 1 ≡ a.row = omega (arith, c.requires.inside) in
    let column : a.column - 1 + 1 ≡ a.column = omega (arith, c.requires.inside) in
    rw (
      sym c.film.view_is,
      index_row w,
      index_column w,
      row,
      column,
      c.outside.ensures,
      c.leaves_grid.ensures,
      c.leaves_grid-2.ensures,
      c.far_source.ensures,
      c.index_of-at.ensures.0,
    ) (search rules)
