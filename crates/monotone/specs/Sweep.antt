-- Relaxations round and round by an ordering, until a whole round of them was quiet or the budget is used.
use Rattle.std.specs.Prelude.{List, Bool, true, false, cond, ℕ, zero, suc, ◌+◌, get_or, set, leb, eqb}
use Rattle.monotone.specs.Rule.{Rule}

-- what one relaxation finds: nothing to do, a raise, or a required pressure above the ceiling
pub data Relaxation : Type 0 where
  quiet raise exceed : Relaxation

pub data Ending : Type 0 where
  done : Ending
  over : ℕ → Ending
  stopped : Ending

-- `quiets` counts the quiet relaxations since the last raise; `place` is the next place of the ordering
pub record State : Type 0 where
  pub field : List ℕ
  pub visits : ℕ
  pub raises : ℕ
  pub quiets : ℕ
  pub place : ℕ

pub record Swept : Type 0 where
  pub answer : Ending
  pub last : State

abbrev pub relax : ℕ → ℕ → ℕ → Relaxation
relax ceiling required pressure = cond (leb required pressure) quiet (cond (leb required ceiling) raise exceed)

-- the place after k of n, round and round
abbrev pub next : ℕ → ℕ → ℕ
next n k = cond (eqb (k + 1) n) 0 (k + 1)

abbrev pub begin : List ℕ → State
begin p = record { field = p; visits = 0; raises = 0; quiets = 0; place = 0 }

module _ (F : Rule) (order : ℕ → ℕ) where
  -- the cell to be relaxed next
  abbrev pub cell_of : State → ℕ
  cell_of s = order s.place

  abbrev pub relax_of : State → Relaxation
  relax_of s = relax F.ceiling (F.required s.field (cell_of s)) (get_or s.field (cell_of s) 0)

  abbrev pub kept : State → State
  kept s =
      record {
        field = s.field;
        visits = s.visits + 1;
        raises = s.raises;
        quiets = s.quiets + 1;
        place = next F.size s.place;
      }

  abbrev pub raised : State → State
  raised s =
      record {
        field = set s.field (cell_of s) (F.required s.field (cell_of s));
        visits = s.visits + 1;
        raises = s.raises + 1;
        quiets = 0;
        place = next F.size s.place;
      }

  abbrev pub exceeded : State → State
  exceeded s =
      record { field = s.field; visits = s.visits + 1; raises = s.raises; quiets = s.quiets; place = s.place }

  -- done, if that was the last of `size` quiet relaxations in a row; else on
  abbrev pub close : Bool → State → (State → Swept) → Swept
  close true s on = record { answer = done; last = s }
  close false s on = on s

  abbrev pub turn : Relaxation → State → (State → Swept) → Swept
  turn quiet s on = close (eqb (s.quiets + 1) F.size) (kept s) on
  turn raise s on = on (raised s)
  turn exceed s on = record { answer = over (cell_of s); last = exceeded s }

  -- at most as many relaxations as the budget has left
  unfoldable pub sweep : ℕ → State → Swept
  sweep zero s = record { answer = stopped; last = s }
  sweep (suc budget) s = turn (relax_of s) s (sweep budget)
