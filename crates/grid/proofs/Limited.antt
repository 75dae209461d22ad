-- What a film that has passed its limits (4, 5, 10 and 14) gives to the code that loads its cells.
use mathlib.Core.Path.{◌≡◌, sym, ◌∙◌}
use mathlib.Core.List.{List}
use Prim.Native.Nat.{ℕ, ◌≤◌, ◌<◌, ◌^◌}
use native.Mathlib.Omega.{arith}
use lib.IntN.{ℤ}
use lib.ListN.{length, get_or}
use Rattle.model.specs.Film.{Film, weighted, size_of, diagonal_at, source_at, pull_of, slack_of, slack}
use Rattle.model.specs.Accepted.{Sized, Limited}
use Rattle.model.proofs.Integers.{positive_low, negative_low}
use Rattle.model.proofs.Lists.{get_d_low}
use Rattle.model.proofs.Sides.{cells_low}
use Rattle.cell.specs.Cell.{Bounded}
use Rattle.cell.specs.declared.Cell.{Cell}
use Rattle.grid.specs.Pull.{Links, Limits, Aligned, Edges, pull_by, IsCell, Loaded}
use Rattle.grid.proofs.Neighbours.{pull_is}

pub size_low : {f : Film} → Sized f → size_of f ≤ 1024
size_low {f} s = cells_low f.rows f.columns s.rows_low s.columns_low

module _ {f : Film} (l : Limited f) where
  -- links that leave the grid are 0
  pub limited_edges : Edges f
  limited_edges = record { some = l.sized.columns_some; right = λ k h. (l.cell k h).right_edge; up = λ k h. (l.cell k h).up_edge }

  -- a link for each number of a field or of the weights
  links : (list numbers : List ℕ) → length list ≡ size_of f → length numbers ≡ size_of f → ((k : ℕ) → k < size_of f → get_or list k 0 ≤ 2 ^ 26)
      → Links list numbers
  links list numbers e n h =
      record {
        len = e ∙ sym n;
        small = get_d_low list (size_of f) (2 ^ 26) e h;
      }

  -- right and up links as what is pulled asks for them
  pub limited_links : {numbers : List ℕ} → length numbers ≡ size_of f → Links f.rights numbers × Links f.ups numbers
  limited_links {numbers} n =
      let s = l.sized in (
        links f.rights numbers s.rights_len n (λ k h. omega (arith, (l.cell k h).right_low)),
        links f.ups numbers s.ups_len n (λ k h. omega (arith, (l.cell k h).up_low)),
      )

  cell_limits : (i : ℕ) → i < size_of f → Limits (diagonal_at f i) (source_at f i)
  cell_limits i h =
      let c = l.cell i h in
      record {
        some = c.diagonal_some;
        diagonal_low = omega arith;
        positive_low = omega (arith, positive_low (source_at f i), c.source_low);
        negative_low = omega (arith, negative_low (source_at f i), c.source_low);
      }

  -- what loading a cell asks, with as many numbers as there are cells
  pub limited_aligned : {numbers : List ℕ} → length numbers ≡ size_of f → Aligned f numbers
  limited_aligned {numbers} n =
      let s = l.sized in
      record {
        right = (limited_links n).0;
        up = (limited_links n).1;
        diagonals_len = s.diagonals_len ∙ sym n;
        sources_len = s.sources_len ∙ sym n;
        cell = λ i h. cell_limits i (omega arith);
      }

-- weights and sources count for nothing in the first, and weights in the second
pub edges_anyhow : {f : Film} {w : List ℕ} {s : List ℤ} → Limited (record (weighted f w) { sources = s }) → Edges f
edges_anyhow l = let e = limited_edges l in record { some = e.some; right = e.right; up = e.up }

module _ {f : Film} {w : List ℕ} (l : Limited (weighted f w)) where
  pub aligned_anyhow : {numbers : List ℕ} → length numbers ≡ size_of f → Aligned f numbers
  aligned_anyhow n =
      let a = limited_aligned l n in
      record { right = a.right; up = a.up; diagonals_len = a.diagonals_len; sources_len = a.sources_len; cell = a.cell }

-- a cell is within the limits that it asks for, where its diagonal and its source are
within : {r : Cell} {diagonal : ℕ} {source : ℤ} → Limits diagonal source → r.diagonal ≡ diagonal → r.pull ≤ 2 ^ 60 → r.source ≡ source → Bounded r
within l d small s =
    record {
      some = rw d l.some;
      diagonal = rw d l.diagonal_low;
      pull = small;
      positive = rw s l.positive_low;
      negative = rw s l.negative_low;
    }

-- what was loaded, from its parts
pub loaded : {f : Film} {numbers : List ℕ} {i : ℕ} {r : Cell} → Aligned f numbers → i < length numbers → r.diagonal ≡ diagonal_at f i
    → r.pull ≡ pull_by f.columns f.rights f.ups numbers i → r.pull ≤ 2 ^ 60 → r.source ≡ source_at f i → Loaded r f numbers i
loaded {f} {numbers} {i} a h d p small s =
    record {
      diagonal = d;
      by_index = p;
      pull = λ e b. p ∙ pull_is f numbers e i b;
      source = s;
      bounded = within (a.cell i h) d small s;
    }

-- and it is the cell, where the links that leave the grid are 0
pub loaded_cell : {f : Film} {numbers : List ℕ} {i : ℕ} {r : Cell} → Edges f → i < size_of f → Loaded r f numbers i → IsCell r f numbers i
loaded_cell e b k = record { diagonal = k.diagonal; pull = k.pull e b; source = k.source; bounded = k.bounded }

module _ {f : Film} (l : Limited f) where
  -- the pull by index, as the code works it out, is document 01's
  pub limited_pull : (numbers : List ℕ) (i : ℕ) → i < size_of f → pull_by f.columns f.rights f.ups numbers i ≡ pull_of f numbers i
  limited_pull numbers i h = pull_is f numbers (limited_edges l) i h

  -- the cell of a film within its limits, from its parts
  pub loads : (numbers : List ℕ) (i : ℕ) (r : Cell) → i < size_of f → r.diagonal ≡ diagonal_at f i
      → r.pull ≡ pull_by f.columns f.rights f.ups numbers i → r.pull ≤ 2 ^ 60 → r.source ≡ source_at f i → IsCell r f numbers i
  loads numbers i r h d p small s =
      record { diagonal = d; pull = p ∙ limited_pull numbers i h; source = s; bounded = within (cell_limits l i h) d small s }

-- its slack is the film's
pub cell_slack : {f : Film} {p : List ℕ} {i : ℕ} {c : Cell} → IsCell c f p i → slack_of c.diagonal c.pull c.source (get_or p i 0) ≡ slack f p i
cell_slack k = rw (k.diagonal, k.pull, k.source)

pub loaded_slack : {f : Film} {p : List ℕ} {i : ℕ} {c : Cell} → Edges f → i < size_of f → Loaded c f p i
    → slack_of c.diagonal c.pull c.source (get_or p i 0) ≡ slack f p i
loaded_slack e b k = cell_slack (loaded_cell e b k)
