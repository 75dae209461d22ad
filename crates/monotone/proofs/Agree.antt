-- Rules that require the same in each cell, and orderings that name the same cells, make the same sweeps.
use mathlib.Core.Path.{◌≡◌, refl, ap, ap₂, ◌∙◌}
use mathlib.Core.Bool.{Bool, true, false}
use mathlib.Core.List.{List}
use Prim.Native.Nat.{ℕ, zero, suc, ◌+◌, ◌<◌}
use lib.Dec.{eqb}
use lib.ListN.{get_or, set}
use Rattle.monotone.specs.Rule.{Rule}
use Rattle.monotone.specs.Sweep.{Relaxation, quiet, raise, exceed, over, State, Swept, relax, next, relax_of, kept, raised, exceeded, close, turn, sweep}
use Rattle.monotone.proofs.Sweep.{next_inside}

module _ (size ceiling : ℕ) (required required' : List ℕ → ℕ → ℕ) (order order' : ℕ → ℕ)
    (same_cell : (k : ℕ) → k < size → order k ≡ order' k) (in_grid : (k : ℕ) → k < size → order k < size)
    (same_required : (p : List ℕ) (i : ℕ) → i < size → required p i ≡ required' p i) where
  abbrev F : Rule
  F = record { size = size; ceiling = ceiling; required = required }

  abbrev G : Rule
  G = record { size = size; ceiling = ceiling; required = required' }

  module _ (s : State) (h : s.place < size) where
    cells : order s.place ≡ order' s.place
    cells = same_cell s.place h

    need : required s.field (order s.place) ≡ required' s.field (order' s.place)
    need = same_required s.field (order s.place) (in_grid s.place h) ∙ ap (required' s.field) cells

    found : relax ceiling (required s.field (order s.place)) (get_or s.field (order s.place) 0)
        ≡ relax ceiling (required' s.field (order' s.place)) (get_or s.field (order' s.place) 0)
    found = ap₂ (λ (r i : ℕ). relax ceiling r (get_or s.field i 0)) need cells

    -- one turn, where what follows it agrees
    module _ (on on' : State → Swept) (then : (t : State) → t.place < size → on t ≡ on' t) where
      closed : (b : Bool) → close F order b (kept F order s) on ≡ close G order' b (kept G order' s) on'
      closed true = refl
      closed false = then (kept F order s) (next_inside size s.place h)

      turned : (k : Relaxation) → turn F order k s on ≡ turn G order' k s on'
      turned quiet = closed (eqb (s.quiets + 1) size)
      turned raise =
          then (raised F order s) (next_inside size s.place h)
          ∙ ap₂ (λ (r i : ℕ). on' (record {
            field = set s.field i r;
            visits = s.visits + 1;
            raises = s.raises + 1;
            quiets = 0;
            place = next size s.place;
          })) need cells
      turned exceed = ap (λ (i : ℕ). record { answer = over i; last = exceeded F order s }) cells

  pub sweep_agrees : (budget : ℕ) (s : State) → s.place < size → sweep F order budget s ≡ sweep G order' budget s
  unfolding sweep
  sweep_agrees zero s h = refl
  sweep_agrees (suc budget) s h =
      ap (λ (k : Relaxation). turn F order k s (sweep F order budget)) (found s h)
      ∙ turned s h (sweep F order budget) (sweep G order' budget) (sweep_agrees budget) (relax_of G order' s)
