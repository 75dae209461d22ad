-- One step of a sweep by what its relaxation finds, and `Going`: what a loop that makes the relaxations keeps from turn to turn.
use mathlib.Core.List.{List}
use mathlib.Core.Path.{◌≡◌, refl, sym, ◌∙◌}
use Prim.Native.Nat.{ℕ, suc, ◌+◌, ◌-◌, ◌≤◌, ◌<◌}
use native.Mathlib.Nat.{sub-zero, sub-eq-zero_of_le}
use native.Mathlib.Omega.{arith}
use borrow.Author.Tests.{le-leb, lt-leb, eq-eqb, ne_eqb}
use lib.ListN.{length, get_or, length-set}
use Rattle.monotone.specs.Rule.{Rule}
use Rattle.monotone.specs.Sweep.{done, over, stopped, State, Swept, begin, cell_of, kept, raised, exceeded, sweep}
use Rattle.monotone.proofs.Sweep.{next_inside}

module _ (F : Rule) (order : ℕ → ℕ) where
  pub sweep_end : (s : State) → sweep F order 0 s ≡ record { answer = stopped; last = s }
  unfolding sweep
  sweep_end s = refl

  module _ (b : ℕ) (s : State) where
    pub sweep_quiet : F.required s.field (cell_of F order s) ≤ get_or s.field (cell_of F order s) 0 → s.quiets + 1 < F.size
        → sweep F order (suc b) s ≡ sweep F order b (kept F order s)
    unfolding sweep
    sweep_quiet h l = simp (le-leb _ _ h, ne_eqb (s.quiets + 1) F.size (λ e. omega arith))

    pub sweep_done : F.required s.field (cell_of F order s) ≤ get_or s.field (cell_of F order s) 0 → s.quiets + 1 ≡ F.size
        → sweep F order (suc b) s ≡ record { answer = done; last = kept F order s }
    unfolding sweep
    sweep_done h e = simp (le-leb _ _ h, eq-eqb _ _ e)

    pub sweep_raise : get_or s.field (cell_of F order s) 0 < F.required s.field (cell_of F order s) → F.required s.field (cell_of F order s) ≤ F.ceiling
        → sweep F order (suc b) s ≡ sweep F order b (raised F order s)
    unfolding sweep
    sweep_raise h l = simp (lt-leb _ _ h, le-leb _ _ l)

    pub sweep_over : get_or s.field (cell_of F order s) 0 < F.required s.field (cell_of F order s) → F.ceiling < F.required s.field (cell_of F order s)
        → sweep F order (suc b) s ≡ record { answer = over (cell_of F order s); last = exceeded F order s }
    unfolding sweep
    sweep_over h l = simp (lt-leb _ _ h, lt-leb _ _ l)

-- A loop in the state s: what is left of the budget leads to the same end as the whole budget from the start.
pub record Going (F : Rule) (order : ℕ → ℕ) (budget : ℕ) (p : List ℕ) (s : State) : Type 0 where
  pub len : length s.field ≡ F.size
  pub inside : s.place < F.size
  pub few : s.quiets < F.size
  pub within : s.visits ≤ budget
  pub some : s.raises ≤ s.visits
  pub calm : s.quiets ≤ s.visits
  pub same : sweep F order (budget - s.visits) s ≡ sweep F order budget (begin p)

pub going_begin : (F : Rule) (order : ℕ → ℕ) (budget : ℕ) (p : List ℕ) → 0 < F.size → length p ≡ F.size → Going F order budget p (begin p)
going_begin F order budget p h e =
    record { len = e; inside = h; few = h; within = omega arith; some = omega arith; calm = omega arith; same = rw sub-zero }

module _ {F : Rule} {order : ℕ → ℕ} {budget : ℕ} {p : List ℕ} (s : State) (G : Going F order budget p s) where
  pub going_stopped : budget ≤ s.visits → sweep F order budget (begin p) ≡ record { answer = stopped; last = s }
  going_stopped h = sym G.same ∙ rw (sub-eq-zero_of_le h) (sweep_end F order s)

  module _ (l : s.visits < budget) where
    left : budget - s.visits ≡ suc (budget - (s.visits + 1))
    left = omega arith

    -- one step more leads to r
    on : {r : Swept} → sweep F order (suc (budget - (s.visits + 1))) s ≡ r → r ≡ sweep F order budget (begin p)
    on e = sym e ∙ rw (← left) G.same

    module _ (quiet : F.required s.field (cell_of F order s) ≤ get_or s.field (cell_of F order s) 0) where
      pub going_quiet : s.quiets + 1 < F.size → Going F order budget p (kept F order s)
      going_quiet k =
          record {
            len = G.len;
            inside = next_inside _ _ G.inside;
            few = k;
            within = omega arith;
            some = omega (arith, G.some);
            calm = omega (arith, G.calm);
            same = on (sweep_quiet F order _ s quiet k);
          }

      pub going_done : s.quiets + 1 ≡ F.size → sweep F order budget (begin p) ≡ record { answer = done; last = kept F order s }
      going_done k = sym (on (sweep_done F order _ s quiet k))

    module _ (above : get_or s.field (cell_of F order s) 0 < F.required s.field (cell_of F order s)) where
      pub going_raise : F.required s.field (cell_of F order s) ≤ F.ceiling → Going F order budget p (raised F order s)
      going_raise k =
          record {
            len = simp length-set G.len;
            inside = next_inside _ _ G.inside;
            few = omega (arith, G.inside);
            within = omega arith;
            some = omega (arith, G.some);
            calm = omega (arith, G.calm);
            same = on (sweep_raise F order _ s above k);
          }

      pub going_over : F.ceiling < F.required s.field (cell_of F order s)
          → sweep F order budget (begin p) ≡ record { answer = over (cell_of F order s); last = exceeded F order s }
      going_over k = sym (on (sweep_over F order _ s above k))
