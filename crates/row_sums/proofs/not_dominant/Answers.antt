-- `row_sums::not_dominant` meets its contract: inside the grid its links are the formed film's, all four add up to its diagonal, and the comparison is `row_sum`.
use mathlib.Core.Path.{◌≡◌, sym, ap}
use Prim.Native.Nat.{◌≤◌, ◌^◌}
use native.Mathlib.Omega.{arith}
use Rattle.model.specs.Gauge.{Gauge, Stepped}
use Rattle.model.specs.declared.Factors.{Factors}
use Rattle.model.specs.Coefficients.{formed}
use Rattle.model.specs.FileCalls.{gauge_of}
use Rattle.model.proofs.Sides.{Inside, row_sum}
use Rattle.model.proofs.Reynolds.{formed_linked, formed_diagonal_lem}
use Rattle.stencil.proofs.Fits.{link_low}
use Rattle.row_sums.proofs.not_dominant.Goals as goal

pub pull-pull-requires-clause-links : goal.pull-pull-requires-clause-links
pull-pull-requires-clause-links c =
    let f : Factors = c.args.factors in
    let steps : Stepped f = c.requires.factors.0 in
    let links_low : let k = c.links_of-links.result in (k.left ≤ 2 ^ 29) × (k.right ≤ 2 ^ 29) × (k.down ≤ 2 ^ 29) × (k.up ≤ 2 ^ 29) =
    let a = c.around_at.result in
    rw c.links_of-links.ensures (
      omega (arith, link_low a.own a.left (omega arith) (omega arith) f.along steps.along_low),
      omega (arith, link_low a.own a.right (omega arith) (omega arith) f.along steps.along_low),
      omega (arith, link_low a.own a.down (omega arith) (omega arith) f.across steps.across_low),
      omega (arith, link_low a.own a.up (omega arith) (omega arith) f.across steps.across_low),
    ) in
    links_low

pub returns : goal.returns
returns c =
    let g : Gauge = let f = c.film.inside in gauge_of f.head f.weights.now f.thicknesses.now f.wedge f.steps in
    let rows : g.rows ≡ c.args.film.now.rows = ap (λ (k : Gauge). k.rows) c.film.view_is in
    let columns : g.columns ≡ c.args.film.now.columns = ap (λ (k : Gauge). k.columns) c.film.view_is in
    let w : Inside (formed g) c.args.row c.args.column = omega (arith, c.requires.inside, rows, columns) in
    rw (
      c.product.ensures,
      c.weight_at-weight.ensures,
      c.pull-pull.ensures,
      c.links_of-links.ensures,
      c.around_at.ensures,
      c.requires.factors.1,
      sym c.film.view_is,
    )
    (row_sum (formed g) w (formed_diagonal_lem g c.args.row c.args.column w) (formed_linked g c.args.row c.args.column w))
