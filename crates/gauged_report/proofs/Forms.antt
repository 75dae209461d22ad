-- What a gauged film's tests give to the code that forms its coefficients.
use mathlib.Core.Path.{◌≡◌, sym, ap, ◌∙◌}
use mathlib.Core.Bool.{true}
use mathlib.Core.List.{List}
use Prim.Native.Nat.{ℕ, ◌≤◌}
use lib.IntN.{ℤ}
use lib.ListN.{take}
use Rattle.std.specs.Prelude.{Option}
use Rattle.model.specs.Refusals.{pass}
use Rattle.model.specs.Gauge.{Gauge, factors_of, Stepped}
use Rattle.model.specs.Film.{film_of}
use Rattle.model.specs.Coefficients.{formed}
use Rattle.model.specs.File.{cells, gauge_check, Values}
use Rattle.model.specs.FileCalls.{gauge_of, head_of}
use Rattle.model.specs.declared.Head.{Head}
use Rattle.model.specs.declared.Factors.{Factors}
use Rattle.model.proofs.File.{gauge_passes, gauge_shape, stepped}
use Rattle.model.proofs.Forming.{formed_accepted}
use Rattle.grid.proofs.Limited.{size_low}
use Rattle.forming.specs.Cell.{Ringed, Forming}
use Rattle.forming.proofs.Film.{film_formed}

module _ {g : Gauge} (v : Values g) (e : gauge_check g true ≡ pass) where
  pub few : cells g.rows g.columns ≤ 1024
  few = size_low (formed_accepted g v e).limited.sized

  pub ringed_film : Ringed g × Stepped (factors_of g.steps)
  ringed_film =
      let numbers = (gauge_passes g e).numbers in
      let shape = gauge_shape g numbers.shape in (
        record {
          rows_some = shape.rows_some;
          rows_low = shape.rows_low;
          columns_some = shape.columns_some;
          columns_low = shape.columns_low;
          thicknesses_len = v.thicknesses_len;
        },
        stepped g.steps _ numbers.steps,
      )

-- the coefficients at the start of four tables, with what the film has in the code, are the formed film
pub lent_formed : {g : Gauge} {h : Head} {weights thicknesses diagonals rights ups : List ℕ} {sources : List ℤ} {wedge : ℤ} {steps : Option Factors} {n : ℕ} → Values g
    → gauge_of h weights thicknesses wedge steps ≡ g → n ≡ cells g.rows g.columns → Forming g diagonals rights ups sources
    → film_of h weights (take n diagonals) (take n rights) (take n ups) (take n sources) ≡ formed g
lent_formed {g} {diagonals = diagonals} {rights = rights} {ups = ups} {sources = sources} {n = n} v view count b =
    ap (λ (x : Gauge). film_of (head_of x) x.weights (take n diagonals) (take n rights) (take n ups) (take n sources)) view
    ∙ ap (λ (k : ℕ). film_of (head_of g) g.weights (take k diagonals) (take k rights) (take k ups) (take k sources)) (count ∙ sym v.weights_len)
    ∙ film_formed g v.weights_len b
