-- `dominance::not_dominant` meets its contract: the links read are the cell's (`links_read`), and the comparison says whether its row sum is below 1 (`row_sum`).
use mathlib.Core.Path.{◌≡◌, sym, ap, ◌∙◌}
use mathlib.Core.Bool.{cond}
use Prim.Native.Nat.{ℕ, ◌-◌, ◌≤◌}
use native.Mathlib.Omega.{arith}
use borrow.Author.Tests.{le-ltb}
use lib.Dec.{ltb}
use Rattle.model.specs.Film.{Film, film_of, diagonal_at, right_at, up_at}
use Rattle.model.proofs.Sides.{index, Inside, row_end, Linked, row_sum}
use Rattle.dominance.proofs.not_dominant.Goals as goal

-- the links that the code reads are those of the cell: one back counts only where there is a cell
links_read : (f : Film) {r c at left down : ℕ} → Inside f r c → at ≡ index f.columns r c → left ≡ cond (ltb at 1) 0 (right_at f (at - 1))
    → down ≡ cond (ltb at f.columns) 0 (up_at f (at - f.columns)) → Linked f r c left (right_at f at) down (up_at f at)
links_read f {r} {c} {at} w p l d =
    record {
      left_is = λ v. let some : 1 ≤ at = omega arith in ap (λ (k : ℕ). right_at f (k - 1)) (sym p) ∙ sym (l ∙ rw (le-ltb at 1 some));
      right_is = λ v. ap (right_at f) (sym p);
      down_is =
          λ v. let some : f.columns ≤ at = omega (arith, row_end f.columns (r - 1) v.below) in
          ap (λ (k : ℕ). up_at f (k - f.columns)) (sym p) ∙ sym (d ∙ rw (le-ltb at f.columns some));
      up_is = λ v. ap (up_at f) (sym p);
    }

pub returns : goal.returns
returns c =
    let film : Film =
    let f = c.film.inside in film_of f.head f.weights.now f.diagonals.now f.rights.now f.ups.now f.sources.now in
    let rows : film.rows ≡ c.args.film.now.rows = ap (λ (f : Film). f.rows) c.film.view_is in
    let columns : film.columns ≡ c.args.film.now.columns = ap (λ (f : Film). f.columns) c.film.view_is in
    let i = c.index_of-at.ensures.0 in
    let w : Inside film c.args.row c.args.column = omega (arith, c.requires.inside, rows, columns) in
    rw (sym c.film.view_is, c.product.ensures, c.weight_at-weight.ensures, c.pull-pull.ensures)
    (row_sum film w (ap (diagonal_at film) (sym i)) (links_read film w i c.link_back-left.ensures c.link_back-down.ensures))
