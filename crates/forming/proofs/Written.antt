-- The loops that write the coefficients of a film's cells into four slices.
use mathlib.Core.Path.{◌≡◌, sym, ap, ap₂, ◌∙◌}
use mathlib.Core.List.{List}
use Prim.Native.Nat.{ℕ, ◌+◌, ◌-◌, ◌*◌, ◌≤◌, ◌<◌}
use native.Mathlib.Omega.{arith}
use lib.Arith.{digits_lt, digits_div, digits_mod}
use lib.IntN.{ℤ}
use lib.ListN.{set}
use Rattle.model.specs.Gauge.{Gauge}
use Rattle.model.specs.Coefficients.{formed_diagonal, formed_right, formed_up, formed_source, by_cell}
use Rattle.model.specs.File.{cells}
use Rattle.grid.proofs.Fill.{Filled, fill_more}
use Rattle.forming.specs.Cell.{coefficients_at, Ringed, Room}
use Rattle.stencil.specs.declared.Coefficients.{Coefficients}

-- a number of cell (r, c) stands at its index
pub by_cell_lem : {A : Type 0} (g : Gauge) (number : ℕ → ℕ → A) (r c : ℕ) → 1 ≤ r → c < g.columns
    → by_cell g number ((r - 1) * g.columns + c) ≡ number r (c + 1)
by_cell_lem g number r c h l =
    ap₂ number (ap (λ (t : ℕ). t + 1) (digits_div (r - 1) l) ∙ omega arith) (ap (λ (t : ℕ). t + 1) (digits_mod (r - 1) l))

-- and that index, by the columns as the code has them, is in a list with room for all
pub place_low : {g : Gauge} {r c columns n : ℕ} → Ringed g → (1 ≤ r) × (r ≤ g.rows) → columns ≡ g.columns → c < columns → cells g.rows g.columns ≤ n
    → (r - 1) * columns + c < n
place_low {g} {r} {c} s inside e l room =
    let low : (r - 1) * g.columns + c < g.rows * g.columns = digits_lt {q = r - 1} {m = g.rows} {r = c} {c = g.columns} (omega arith) (omega arith) in
    rw e (omega (arith, low))

-- what holds where the coefficients of the first i cells are written, from the slices at entry to those now
pub record Written (g : Gauge) (i : ℕ) (diagonals₀ rights₀ ups₀ : List ℕ) (sources₀ : List ℤ) (diagonals rights ups : List ℕ) (sources : List ℤ)
    : Type 0 where
  pub diagonal : Filled (by_cell g (formed_diagonal g)) i diagonals₀ diagonals
  pub right : Filled (by_cell g (formed_right g)) i rights₀ rights
  pub up : Filled (by_cell g (formed_up g)) i ups₀ ups
  pub source : Filled (by_cell g (formed_source g)) i sources₀ sources

module _ (g : Gauge) {diagonals₀ rights₀ ups₀ : List ℕ} {sources₀ : List ℤ} {i : ℕ} {diagonals rights ups : List ℕ} {sources : List ℤ}
    (w : Written g i diagonals₀ rights₀ ups₀ sources₀ diagonals rights ups sources) where
  -- there is still room
  pub written_room : {n : ℕ} → Room n diagonals₀ rights₀ ups₀ sources₀ → Room n diagonals rights ups sources
  written_room r =
      record {
        diagonals_room = omega (arith, r.diagonals_room, w.diagonal.len);
        rights_room = omega (arith, r.rights_room, w.right.len);
        ups_room = omega (arith, r.ups_room, w.up.len);
        sources_room = omega (arith, r.sources_room, w.source.len);
      }

  -- one more cell, that in row r and column c + 1
  pub written_more : {n : ℕ} → Room n diagonals₀ rights₀ ups₀ sources₀ → i < n → (r c : ℕ) → 1 ≤ r → c < g.columns → i ≡ (r - 1) * g.columns + c
      → {x : Coefficients} → x ≡ coefficients_at g r (c + 1)
      → {z : ℤ} → z ≡ x.source
      → Written g (i + 1) diagonals₀ rights₀ ups₀ sources₀ (set diagonals i x.diagonal) (set rights i x.right) (set ups i x.up) (set sources i z)
  written_more m h r c l k p e s =
      record {
        diagonal = fill_more _ (omega (arith, m.diagonals_room)) (ap (λ (y : Coefficients). y.diagonal) e ∙ here (formed_diagonal g)) w.diagonal;
        right = fill_more _ (omega (arith, m.rights_room)) (ap (λ (y : Coefficients). y.right) e ∙ here (formed_right g)) w.right;
        up = fill_more _ (omega (arith, m.ups_room)) (ap (λ (y : Coefficients). y.up) e ∙ here (formed_up g)) w.up;
        source = fill_more _ (omega (arith, m.sources_room)) (s ∙ ap (λ (y : Coefficients). y.source) e ∙ here (formed_source g)) w.source;
      }
    where
      here : {A : Type 0} (number : ℕ → ℕ → A) → number r (c + 1) ≡ by_cell g number i
      here number = sym (ap (by_cell g number) p ∙ by_cell_lem g number r c l k)
