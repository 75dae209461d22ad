-- What a turn of the loop leads to: its next turn, from which the rest of the budget leads to the end of the theory's sweep (`Going`), or that end.
use mathlib.Core.Path.{◌≡◌, refl}
use mathlib.Core.Bool.{Bool, true, false, cond}
use mathlib.Core.List.{List}
use Prim.Native.Nat.{ℕ, ◌+◌, ◌≤◌, ◌<◌}
use native.Mathlib.Omega.{arith}
use borrow.Author.Tests.{eqb-true, eqb-false}
use lib.Dec.{eqb}
use lib.ListN.{length, get_or}
use Rattle.monotone.specs.Rule.{Rule}
use Rattle.monotone.specs.Sweep as theory
use Rattle.monotone.proofs.Sweep.{Seen, was_quiet, was_raise, was_exceed, see}
use Rattle.monotone.proofs.Steps.{Going, going_stopped, going_quiet, going_done, going_raise, going_over}
use Rattle.pointwise.specs.Relaxation.{field_after, count_after, judge_by}
use Rattle.pointwise.specs.declared.Counter.{Counter}
use Rattle.pointwise.specs.declared.Step.{Step}
use Rattle.pointwise.specs.declared.Step.TheVariants as steps
use Rattle.sweep.specs.Sweep.{Listed, order_in, state_of, Advanced, answer_of, counter_of, Ends}
use Rattle.sweep.specs.declared.Swept.{Swept}
use Rattle.sweep.specs.declared.Swept.TheVariants as ends

module _ {F : Rule} {table : List ℕ} {budget : ℕ} {p₀ : List ℕ} where
  -- the sweep has ended so
  ends_by : (r : Swept) (s : theory.State) → theory.sweep F (order_in table) budget (theory.begin p₀) ≡ record { answer = answer_of r; last = s }
      → (counter_of r).visits ≡ s.visits → (counter_of r).raises ≡ s.raises → Ends F table budget p₀ r s.field
  ends_by r s e v w = record { answer = rw e; visits = rw e v; raises = rw e w; field = rw e }

  module _ {p : List ℕ} {place : ℕ} {c : Counter} (G : Going F (order_in table) budget p₀ (state_of p c place)) where
    pub stops : budget ≤ c.visits → Ends F table budget p₀ (ends.Stopped c) p
    stops h = ends_by (ends.Stopped c) (state_of p c place) (going_stopped (state_of p c place) G h) refl refl

    module _ (L : Listed table F.size) (l : c.visits < budget) where
      abbrev Leads : Step → List ℕ → Type 0
      Leads (steps.On c') q = Going F (order_in table) budget p₀ (state_of q c' (theory.next F.size place))
      Leads (steps.Done c') q = Ends F table budget p₀ (ends.Done c') q
      Leads (steps.Over i c') q = Ends F table budget p₀ (ends.Over i c') q

      abbrev cell : ℕ
      cell = order_in table place

      closes : (b : Bool) → eqb (c.quiet + 1) F.size ≡ b → F.required p cell ≤ get_or p cell 0
          → Leads (cond b (steps.Done (count_after theory.quiet c)) (steps.On (count_after theory.quiet c))) p
      closes true e h =
          ends_by (ends.Done (count_after theory.quiet c)) (theory.kept F (order_in table) (state_of p c place))
          (going_done (state_of p c place) G l h (eqb-true _ _ e)) refl refl
      closes false e h =
          going_quiet (state_of p c place) G l h (omega (arith, G.few, eqb-false (c.quiet + 1) F.size e))

      leads_by : (k : theory.Relaxation) → Seen F.ceiling (F.required p cell) (get_or p cell 0) k
          → Leads (judge_by k F.size cell (count_after k c)) (field_after k p cell (F.required p cell))
      leads_by theory.quiet (was_quiet h) = closes (eqb (c.quiet + 1) F.size) refl h
      leads_by theory.raise (was_raise h b) = going_raise (state_of p c place) G l h b
      leads_by theory.exceed (was_exceed h b) =
          ends_by (ends.Over cell (count_after theory.exceed c)) (theory.exceeded F (order_in table) (state_of p c place))
          (going_over (state_of p c place) G l h b) refl refl

      module _ {r : Step} {exit : List ℕ} (A : Advanced F table p place c r exit) where
        leads : Leads r exit
        leads = rw (A.answer, A.field, L.len) (leads_by _ (see F.ceiling (F.required p cell) (get_or p cell 0)))

        pub goes_on : {c' : Counter} {place' : ℕ} → r ≡ steps.On c' → place' ≡ theory.next (length table) place
            → Going F (order_in table) budget p₀ (state_of exit c' place')
        goes_on e f = rw (f, L.len) (rw e at leads)

        pub is_done : {c' : Counter} → r ≡ steps.Done c' → Ends F table budget p₀ (ends.Done c') exit
        is_done e = rw e at leads

        pub is_over : {i : ℕ} {c' : Counter} → r ≡ steps.Over i c' → Ends F table budget p₀ (ends.Over i c') exit
        is_over e = rw e at leads
