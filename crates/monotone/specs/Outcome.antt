-- What holds of a sweep: in any case, and by its answer.
use Rattle.std.specs.Prelude.{◌≡◌, List, ℕ, ◌+◌, ◌*◌, ◌≤◌, ◌<◌}
use Rattle.monotone.specs.Field.{total, ◌⊑◌}
use Rattle.monotone.specs.Rule.{Rule, Feasible, Rises}
use Rattle.monotone.specs.Sweep.{Ending, done, over, stopped, State, Swept}

-- a field q that a sweep from p has come to, with so many raises
pub record Risen (F : Rule) (p q : List ℕ) (raises : ℕ) : Type 0 where
  pub rises : Rises F p q
  pub gain : raises + total p ≤ total q

-- what each answer says of a sweep from p with that budget, and of the state in which it ended
abbrev pub Says : Rule → List ℕ → ℕ → Ending → State → Type 0
Says F p budget done s = Feasible F s.field
Says F p budget (over i) s =
    (i < F.size) × (F.ceiling < F.required s.field i) × ((z : List ℕ) → Feasible F z → p ⊑ z → ⊥)
Says F p budget stopped s = (s.visits ≡ budget) × (F.size ≤ budget → 0 < s.raises)

pub record Outcome (F : Rule) (p : List ℕ) (budget : ℕ) (r : Swept) : Type 0 where
  pub risen : Risen F p r.last.field r.last.raises
  pub spent : r.last.visits ≤ F.size * (r.last.raises + 1)
  pub says : Says F p budget r.answer r.last
