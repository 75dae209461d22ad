-- `shape::weights::pull` meets its contract: a weight beside the cell counts just if it is inside the grid, and links up to 2 ^ 29 leave the sum room (`sums`).
use mathlib.Core.Path.{◌≡◌, ap, ◌∙◌}
use mathlib.Core.Bool.{true, cond}
use mathlib.Core.List.{List, []}
use Prim.Native.Nat.{ℕ, ◌+◌, ◌-◌, ◌*◌, ◌≤◌, ◌<◌}
use native.Mathlib.Omega.{arith}
use borrow.Author.Tests.{ltb-true, lt-ltb}
use lib.Dec.{ltb}
use lib.ListN.{get_or}
use Rattle.model.specs.Gauge.{Gauge}
use Rattle.model.specs.Reynolds.{pressure_at}
use Rattle.model.specs.FileCalls.{bare_of}
use Rattle.model.proofs.Sides.{Cell, index, row_end, index_low, left_index, right_index, down_index, up_index, number_if}
use Rattle.shape.proofs.weights.pull.Goals as goal

module _ (g : Gauge) (p : List ℕ) {r c i : ℕ} (w : Cell g.rows g.columns r c) (e : i ≡ index g.columns r c) where
  left_some : ltb 1 c ≡ true → 1 ≤ i
  left_some h = omega (arith, ltb-true 1 c h)

  down_some : ltb 1 r ≡ true → g.columns ≤ i
  down_some h = omega (arith, row_end g.columns (r - 1) (omega (arith, ltb-true 1 r h)))

  right_low : ltb c g.columns ≡ true → i + 1 < g.rows * g.columns
  right_low h =
      let v : Cell g.rows g.columns r (c + 1) = omega (arith, ltb-true c g.columns h) in
      omega (arith, index_low v, right_index w)

  up_low : ltb r g.rows ≡ true → i + g.columns < g.rows * g.columns
  up_low h =
      let v : Cell g.rows g.columns (r + 1) c = omega (arith, ltb-true r g.rows h) in
      omega (arith, index_low v, up_index w)

  left_number : cond (ltb 1 c) (get_or p (i - 1) 0) 0 ≡ pressure_at g p r (c - 1)
  left_number = number_if g p (ltb 1 c) (omega (arith, ltb-true, lt-ltb)) (λ v. ap (λ (k : ℕ). k - 1) e ∙ left_index w v)

  right_number : cond (ltb c g.columns) (get_or p (i + 1) 0) 0 ≡ pressure_at g p r (c + 1)
  right_number = number_if g p (ltb c g.columns) (omega (arith, ltb-true, lt-ltb)) (λ v. ap (λ (k : ℕ). k + 1) e ∙ right_index w)

  down_number : cond (ltb 1 r) (get_or p (i - g.columns) 0) 0 ≡ pressure_at g p (r - 1) c
  down_number = number_if g p (ltb 1 r) (omega (arith, ltb-true, lt-ltb)) (λ v. ap (λ (k : ℕ). k - g.columns) e ∙ down_index w v)

  up_number : cond (ltb r g.rows) (get_or p (i + g.columns) 0) 0 ≡ pressure_at g p (r + 1) c
  up_number = number_if g p (ltb r g.rows) (omega (arith, ltb-true, lt-ltb)) (λ v. ap (λ (k : ℕ). k + g.columns) e ∙ up_index w)

pub weight_ahead-requires-2 : goal.weight_ahead-requires-2
weight_ahead-requires-2 c h =
    let grid : Gauge = bare_of c.args.head [] in
    let inside : Cell c.args.head.rows c.args.head.columns c.args.row c.args.column = omega (arith, c.requires.inside) in
    omega (arith, c.requires.sides, up_low grid c.args.weights.now inside c.index_of-at.ensures.0 h)

pub returns : goal.returns
returns c =
    let grid : Gauge = bare_of c.args.head [] in
    let inside : Cell c.args.head.rows c.args.head.columns c.args.row c.args.column = omega (arith, c.requires.inside) in
    let p = c.args.weights.now in
    let e = c.index_of-at.ensures.0 in
    rw (
      c.product-from_up.ensures,
      c.weight_ahead-2.ensures,
      c.product-from_down.ensures,
      c.weight_back-2.ensures,
      c.product-from_right.ensures,
      c.weight_ahead.ensures,
      c.product-from_left.ensures,
      c.weight_back.ensures,
      left_number grid p inside e,
      right_number grid p inside e,
      down_number grid p inside e,
      up_number grid p inside e,
    )
