-- A step to where the loaded cell is raised to is the relaxation of that cell.
use mathlib.Core.Path.{◌≡◌, ap, ◌∙◌}
use mathlib.Core.List.{List}
use Prim.Native.Nat.{ℕ, ◌<◌}
use lib.ListN.{get_or}
use Rattle.monotone.specs.Sweep.{relax}
use Rattle.model.specs.Film.{Film, size_of}
use Rattle.model.specs.Relaxation.{required_for, required}
use Rattle.cell.specs.declared.Cell.{Cell}
use Rattle.grid.specs.Pull.{Edges, IsCell, Loaded}
use Rattle.grid.proofs.Limited.{loaded_cell}
use Rattle.pointwise.specs.Relaxation.{raise_to, count_after, Stepped, Relaxes}
use Rattle.pointwise.specs.declared.Counter.{Counter}
use Rattle.pointwise.specs.declared.After.{After}
use Rattle.pointwise.proofs.Relaxation.{relax_target, relaxed_target}
use Rattle.relaxation.specs.Rule.{required_by}

module _ (entry : List ℕ) (i need ceiling : ℕ) (c : Counter) (r : After) (exit : List ℕ) where
  abbrev to : ℕ
  to = raise_to need (get_or entry i 0)

  target_serves : Stepped entry i to (relax ceiling to 0) c r exit → Relaxes entry i need ceiling c r exit
  target_serves S =
      record {
        relaxed = relaxed_target entry i ceiling need (get_or entry i 0) S.relaxed;
        counter = S.counter ∙ ap (λ k. count_after k c) (relax_target entry i ceiling need (get_or entry i 0));
      }

pub loaded_serves : {f : Film} {entry : List ℕ} {i : ℕ} {cell : Cell} {target ceiling : ℕ} {c : Counter} {r : After} {exit : List ℕ}
    → IsCell cell f entry i → target ≡ raise_to (required_for cell.diagonal cell.pull cell.source) (get_or entry i 0) → ceiling ≡ f.ceiling
    → Stepped entry i target (relax ceiling target 0) c r exit → Relaxes entry i (required f entry i) f.ceiling c r exit
loaded_serves {f} k t e S = target_serves _ _ _ f.ceiling _ _ _ (rw (e, t, k.diagonal, k.pull, k.source) at S)

-- the same of what was loaded
module _ {f : Film} {entry : List ℕ} {i : ℕ} {cell : Cell} {target ceiling : ℕ} {c : Counter} {r : After} {exit : List ℕ} (k : Loaded cell f entry i)
    (t : target ≡ raise_to (required_for cell.diagonal cell.pull cell.source) (get_or entry i 0)) (e : ceiling ≡ f.ceiling)
    (S : Stepped entry i target (relax ceiling target 0) c r exit) where
  -- read by index
  pub loaded_serves_by_index : Relaxes entry i (required_by f entry i) f.ceiling c r exit
  unfolding required_by
  loaded_serves_by_index = target_serves _ _ _ f.ceiling _ _ _ (rw (e, t, k.diagonal, k.by_index, k.source) at S)

  -- and so the film's own
  pub loaded_serves_own : Edges f → i < size_of f → Relaxes entry i (required f entry i) f.ceiling c r exit
  loaded_serves_own edges b = loaded_serves (loaded_cell edges b k) t e S
