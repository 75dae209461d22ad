-- A sweep by a table of cells: the relaxation at each place, and how it ends.
use Rattle.std.specs.Prelude.{◌≡◌, List, ℕ, ◌<◌, length, get_or}
use Rattle.monotone.specs.Rule.{Rule}
use Rattle.monotone.specs.Sweep as theory
use Rattle.pointwise.specs.Relaxation.{count_after, field_after, judge_by}
use Rattle.pointwise.specs.declared.Counter.{Counter}
use Rattle.pointwise.specs.declared.Step.{Step}
use Rattle.sweep.specs.declared.Swept.{Swept}
use Rattle.sweep.specs.declared.Swept.TheVariants as ends

-- a table of n cells: a cell for each place
pub record Listed (table : List ℕ) (n : ℕ) : Type 0 where
  pub len : length table ≡ n
  pub cells : (k : ℕ) → k < length table → get_or table k 0 < n

-- the cell at a place
abbrev pub order_in : List ℕ → ℕ → ℕ
order_in table k = get_or table k 0

-- the theory's state
abbrev pub state_of : List ℕ → Counter → ℕ → theory.State
state_of p c place = record { field = p; visits = c.visits; raises = c.raises; quiets = c.quiet; place = place }

-- the relaxation at a place of the table
abbrev pub found_at : Rule → List ℕ → List ℕ → ℕ → Counter → theory.Relaxation
found_at F table p place c = theory.relax_of F (order_in table) (state_of p c place)

pub record Advanced (F : Rule) (table entry : List ℕ) (place : ℕ) (c : Counter) (r : Step) (exit : List ℕ) : Type 0 where
  pub answer : r ≡ judge_by (found_at F table entry place c) (length table) (order_in table place) (count_after (found_at F table entry place c) c)
  pub field : exit ≡ field_after (found_at F table entry place c) entry (order_in table place) (F.required entry (order_in table place))

abbrev pub answer_of : Swept → theory.Ending
answer_of (ends.Done c) = theory.done
answer_of (ends.Stopped c) = theory.stopped
answer_of (ends.Over i c) = theory.over i

abbrev pub counter_of : Swept → Counter
counter_of (ends.Done c) = c
counter_of (ends.Stopped c) = c
counter_of (ends.Over i c) = c

-- the answer, the counts and the field are those of the theory's sweep
pub record Ends (F : Rule) (table : List ℕ) (budget : ℕ) (entry : List ℕ) (r : Swept) (exit : List ℕ) : Type 0 where
  pub answer : answer_of r ≡ (theory.sweep F (order_in table) budget (theory.begin entry)).answer
  pub visits : (counter_of r).visits ≡ (theory.sweep F (order_in table) budget (theory.begin entry)).last.visits
  pub raises : (counter_of r).raises ≡ (theory.sweep F (order_in table) budget (theory.begin entry)).last.raises
  pub field : exit ≡ (theory.sweep F (order_in table) budget (theory.begin entry)).last.field
