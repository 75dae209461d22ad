-- A test that a closure makes at each of n places, or at each cell of a grid: it may be called there, and what it answers there is what
-- `test` says. A grid's rows and columns run from 1.
use Rattle.std.specs.Prelude.{◌≡◌, Bool, ℕ, ◌+◌, ◌-◌, ◌*◌, ◌≤◌, ◌<◌}
use Rattle.model.specs.declared.Head.{Head}

abbrev pub Callable : ℕ → (ℕ → Type 0) → Type 0
Callable n pre = (i : ℕ) → i < n → pre i

abbrev pub Decides : ℕ → (ℕ → Bool → Type 0) → (ℕ → Bool) → Type 0
Decides n post test = (i : ℕ) → i < n → (answer : Bool) → post i answer → answer ≡ test i

abbrev InGrid : Head → ℕ → ℕ → Type 0
InGrid h row column = (1 ≤ row) × (row ≤ h.rows) × (1 ≤ column) × (column ≤ h.columns)

abbrev pub CellsCallable : Head → (ℕ → ℕ → Type 0) → Type 0
CellsCallable h pre = (row column : ℕ) → InGrid h row column → pre row column

abbrev pub CellsDecides : Head → (ℕ → ℕ → Bool → Type 0) → (ℕ → Bool) → Type 0
CellsDecides h post test =
    (row column : ℕ) → InGrid h row column → (answer : Bool) → post row column answer → answer ≡ test ((row - 1) * h.columns + (column - 1))
