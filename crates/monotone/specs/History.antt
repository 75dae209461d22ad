-- Lists of steps that share one field: each takes it up as the last one left it.
use Rattle.std.specs.Prelude.{◌≡◌, cond, List, [], ◌∷◌, ℕ, ◌+◌, ◌*◌, ◌≤◌, ◌<◌, leb, replicate}
use Rattle.monotone.specs.Field.{total, ◌⊑◌}
use Rattle.monotone.specs.Rule.{Rule, Bounded, Feasible, Rises, Least}
use Rattle.monotone.specs.Sweep.{Ending}

-- what matters of a step's answer; `exhausted` is Stopped with a budget that covers every cell
pub data Verdict : Type 0 where
  done over exhausted other : Verdict

-- what a verdict says of a step that takes the field from p to q
abbrev pub Shows : Rule → List ℕ → List ℕ → Verdict → Type 0
Shows F p q done = Feasible F q
Shows F p q over = (z : List ℕ) → Feasible F z → p ⊑ z → ⊥
Shows F p q exhausted = total p < total q
Shows F p q other = Unit {0}

-- a step that is good by itself
pub record Good (F : Rule) (p q : List ℕ) (v : Verdict) : Type 0 where
  pub rises : Rises F p q
  pub shows : Shows F p q v

-- the verdict of a sweep of n cells with that budget
abbrev pub sweep_verdict : ℕ → ℕ → Ending → Verdict
sweep_verdict n budget Ending.done = done
sweep_verdict n budget (Ending.over i) = over
sweep_verdict n budget Ending.stopped = cond (leb n budget) exhausted other

-- 1 for exhausted
abbrev pub count_of : Verdict → ℕ
count_of done = 0
count_of over = 0
count_of exhausted = 1
count_of other = 0

abbrev pub zeros : Rule → List ℕ
zeros F = replicate F.size 0

-- Steps of any kind, by the field that each leaves and its verdict.
module _ {S : Type 0} (exit : S → List ℕ) where
  -- P of each step of a list from the field p on, with the field that it takes up
  abbrev pub Each : (List ℕ → S → Type 0) → List ℕ → List S → Type 0
  Each P p [] = Unit {0}
  Each P p (s ∷ ss) = P p s × Each P (exit s) ss

-- how many steps of a list were exhausted
abbrev pub exhaustions : {S : Type 0} → (S → Verdict) → List S → ℕ
exhaustions verdict [] = 0
exhaustions verdict (s ∷ ss) = count_of (verdict s) + exhaustions verdict ss

-- What holds of every list of good steps from a field p that is no higher than any feasible one.
pub record Promise (F : Rule) {S : Type 0} (exit : S → List ℕ) (verdict : S → Verdict) (p : List ℕ) (ss : List S) : Type 0 where
  -- the field stays within its bounds, only rises, and never above any feasible field
  pub bounded : Each exit (λ entry s. Bounded F entry) p ss
  pub rising : Each exit (λ entry s. entry ⊑ exit s) p ss
  pub under : Each exit (λ entry s. (z : List ℕ) → Feasible F z → exit s ⊑ z) p ss
  -- Done leaves the least field
  pub least : Each exit (λ entry s. verdict s ≡ done → Least F (exit s)) p ss
  -- Over: no field is feasible
  pub none : Each exit (λ entry s. verdict s ≡ over → (z : List ℕ) → Feasible F z → ⊥) p ss
  -- exhausted so often at most: by any feasible field's total, and by size × ceiling in any case
  pub few : (z : List ℕ) → Feasible F z → exhaustions verdict ss + total p ≤ total z
  pub few_ever : exhaustions verdict ss + total p ≤ F.size * F.ceiling
