-- What a field is held to, and what a call may do to it.
use Rattle.std.specs.Prelude.{◌≡◌, List, ℕ, ◌≤◌, ◌<◌, length, get_or}
use Rattle.monotone.specs.Field.{◌⊑◌}

-- cells below `size`, pressures up to `ceiling`, and what each cell requires in a field
pub record Rule : Type 0 where
  pub size : ℕ
  pub ceiling : ℕ
  pub required : List ℕ → ℕ → ℕ

-- a higher field requires no less
pub record Monotone (F : Rule) : Type 0 where
  pub some : 0 < F.size
  pub mono : {p q : List ℕ} → p ⊑ q → (i : ℕ) → i < F.size → F.required p i ≤ F.required q i

-- a field of that many cells, none above the ceiling
pub record Bounded (F : Rule) (p : List ℕ) : Type 0 where
  pub len : length p ≡ F.size
  pub low : (i : ℕ) → get_or p i 0 ≤ F.ceiling

-- no cell is below what it requires, the ceiling left aside
pub record Satisfied (F : Rule) (p : List ℕ) : Type 0 where
  pub len : length p ≡ F.size
  pub met : (i : ℕ) → i < F.size → F.required p i ≤ get_or p i 0

-- both (document 01: the field meets the film)
pub record Feasible (F : Rule) (p : List ℕ) : Type 0 where
  pub bounded : Bounded F p
  pub met : (i : ℕ) → i < F.size → F.required p i ≤ get_or p i 0

-- q is at or above p, and at or below every satisfied field at or above p: what each call does to the field
pub record Rises (F : Rule) (p q : List ℕ) : Type 0 where
  pub bounded : Bounded F q
  pub rose : p ⊑ q
  pub under : (z : List ℕ) → Satisfied F z → p ⊑ z → q ⊑ z

-- q is feasible, and in no cell higher than any feasible field
pub record Least (F : Rule) (q : List ℕ) : Type 0 where
  pub feasible : Feasible F q
  pub under : (z : List ℕ) → Feasible F z → q ⊑ z

-- the same among the feasible fields at or above p
pub record LeastAbove (F : Rule) (p q : List ℕ) : Type 0 where
  pub feasible : Feasible F q
  pub above : p ⊑ q
  pub under : (z : List ℕ) → Feasible F z → p ⊑ z → q ⊑ z

-- a field to start from: bounded, and in no cell higher than any feasible field
pub record Start (F : Rule) (s : List ℕ) : Type 0 where
  pub bounded : Bounded F s
  pub under : (z : List ℕ) → Feasible F z → s ⊑ z
