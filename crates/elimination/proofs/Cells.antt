-- What is worked out of a cell of an accepted film, on the way to document 01's elimination step.
use mathlib.Core.Path.{◌≡◌}
use mathlib.Core.List.{List}
use Prim.Native.Nat.{ℕ, ◌+◌, ◌≤◌, ◌<◌, ◌^◌}
use native.Mathlib.Omega.{arith}
use Rattle.model.specs.Film.{Film, size_of, pull_of}
use Rattle.cell.specs.declared.Cell.{Cell}
use Rattle.grid.specs.Pull.{Links, back_of, ahead_of, Loaded}
use Rattle.grid.proofs.Neighbours.{across_is}
use Rattle.grid.proofs.Limited.{limited_links, edges_anyhow}
use Rattle.elimination.specs.Line.{Held, across_of}
use Rattle.margin.proofs.Inside.{across_low}

module _ {f : Film} {p : List ℕ} (H : Held f p) where
  pub held_links : Links f.ups p
  held_links = (limited_links H.accepted.limited H.bounded.len).1

  module _ {i : ℕ} (b : i < size_of f) where
    -- the pull of the cell that was loaded is document 01's
    pub held_pull : {cell : Cell} → Loaded cell f p i → cell.pull ≡ pull_of f p i
    held_pull C = C.pull (edges_anyhow H.accepted.limited) b

    -- the products of the two vertical links are document 01's pull over the rows below and above, and small
    pub across_found : {x y : ℕ} → x ≡ back_of f.ups p i f.columns → y ≡ ahead_of f.ups p i f.columns
        → (x + y ≡ across_of f p i) × (x + y ≤ 2 ^ 52)
    across_found {x} {y} back ahead =
        let found : x + y ≡ across_of f p i = omega (arith, across_is f p (edges_anyhow H.accepted.limited) i b) in (
          found,
          omega (
            arith,
            across_low f i p held_links (λ k. omega (arith, H.bounded.low k, H.accepted.limited.sized.ceiling_low)),
          ),
        )
