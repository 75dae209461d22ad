-- One relaxation: what it does to the field and to the counts, and what it leaves to do.
use Rattle.std.specs.Prelude.{◌≡◌, cond, List, ℕ, ◌+◌, ◌≤◌, ◌<◌, eqb, leb, get_or, set}
use Rattle.monotone.specs.Sweep.{Relaxation, quiet, raise, exceed, relax}
use Rattle.pointwise.specs.declared.Counter.{Counter}
use Rattle.pointwise.specs.declared.Found.{Found}
use Rattle.pointwise.specs.declared.Found.TheVariants as founds
use Rattle.pointwise.specs.declared.After.{After}
use Rattle.pointwise.specs.declared.Step.{Step}
use Rattle.pointwise.specs.declared.Step.TheVariants as steps

-- where a relaxation lifts a cell to, the ceiling left aside; 0 if it is quiet: no cell is raised to that
abbrev pub raise_to : ℕ → ℕ → ℕ
raise_to required pressure = cond (leb required pressure) 0 required

abbrev pub kind_of : Found → Relaxation
kind_of founds.Quiet = quiet
kind_of founds.Raised = raise
kind_of founds.Over = exceed

abbrev pub field_after : Relaxation → List ℕ → ℕ → ℕ → List ℕ
field_after quiet p i target = p
field_after raise p i target = set p i target
field_after exceed p i target = p

abbrev pub count_after : Relaxation → Counter → Counter
count_after quiet c = record { visits = c.visits + 1; raises = c.raises; quiet = c.quiet + 1 }
count_after raise c = record { visits = c.visits + 1; raises = c.raises + 1; quiet = 0 }
count_after exceed c = record { visits = c.visits + 1; raises = c.raises; quiet = c.quiet }

-- what a relaxation of cell i leaves to do, of n cells and with the counts after it
abbrev pub judge_by : Relaxation → ℕ → ℕ → Counter → Step
judge_by quiet n i c = cond (eqb c.quiet n) (steps.Done c) (steps.On c)
judge_by raise n i c = steps.On c
judge_by exceed n i c = steps.Over i c

-- one relaxation more does not wrap a counter
pub record Room (c : Counter) : Type 0 where
  pub visits_low : c.visits < 18446744073709551615
  pub raises_low : c.raises ≤ c.visits
  pub quiet_low : c.quiet ≤ c.visits

-- a relaxation of cell i that finds k: a raise goes to the target
pub record RelaxedAt (entry : List ℕ) (i target : ℕ) (k : Relaxation) (v : Found) (exit : List ℕ) : Type 0 where
  pub kind : kind_of v ≡ k
  pub field : exit ≡ field_after k entry i target

pub record Stepped (entry : List ℕ) (i target : ℕ) (k : Relaxation) (c : Counter) (r : After) (exit : List ℕ) : Type 0 where
  pub relaxed : RelaxedAt entry i target k r.found exit
  pub counter : r.counter ≡ count_after k c

-- a relaxation of cell i, counted: what it requires is compared with its pressure
abbrev pub Relaxes : List ℕ → ℕ → ℕ → ℕ → Counter → After → List ℕ → Type 0
Relaxes entry i required ceiling = Stepped entry i required (relax ceiling required (get_or entry i 0))
