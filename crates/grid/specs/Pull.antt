-- A cell and its neighbours, by index alone.
use Rattle.std.specs.Prelude.{◌≡◌, cond, List, ℕ, ◌+◌, ◌-◌, ◌*◌, ◌≤◌, ◌<◌, ◌^◌, ltb, ℤ, length, get_or}
use Rattle.model.specs.Integers.{positive_part, negative_part}
use Rattle.model.specs.Film.{Film, size_of, row_of, column_of, diagonal_at, right_at, up_at, source_at, pull_of}
use Rattle.cell.specs.Cell.{Bounded}
use Rattle.cell.specs.declared.Cell.{Cell}

-- a link for each number, none so large that four products pass their type
pub record Links (links numbers : List ℕ) : Type 0 where
  pub len : length links ≡ length numbers
  pub small : (k : ℕ) → get_or links k 0 ≤ 2 ^ 26

-- link × number of the cell that lies k before i, and of the one that lies k after it; 0 if there is none
unfoldable pub back_of : List ℕ → List ℕ → ℕ → ℕ → ℕ
back_of links numbers i k = cond (ltb i k) 0 (get_or links (i - k) 0 * get_or numbers (i - k) 0)

unfoldable pub ahead_of : List ℕ → List ℕ → ℕ → ℕ → ℕ
ahead_of links numbers i k = get_or links i 0 * get_or numbers (i + k) 0

-- r is that product
pub record Product (r product : ℕ) : Type 0 where
  pub is : r ≡ product
  pub small : r ≤ 2 ^ 58

unfoldable pub pull_by : ℕ → List ℕ → List ℕ → List ℕ → ℕ → ℕ
pull_by columns rights ups numbers i =
    back_of rights numbers i 1 + ahead_of rights numbers i 1 + (back_of ups numbers i columns + ahead_of ups numbers i columns)

-- a diagonal and a source within the limits that a cell asks for
pub record Limits (diagonal : ℕ) (source : ℤ) : Type 0 where
  pub some : 0 < diagonal
  pub diagonal_low : diagonal ≤ 2 ^ 28
  pub positive_low : positive_part source ≤ 2 ^ 60
  pub negative_low : negative_part source ≤ 2 ^ 60

-- coefficients for each of the numbers
pub record Aligned (f : Film) (numbers : List ℕ) : Type 0 where
  pub right : Links f.rights numbers
  pub up : Links f.ups numbers
  pub diagonals_len : length f.diagonals ≡ length numbers
  pub sources_len : length f.sources ≡ length numbers
  pub cell : (i : ℕ) → i < length numbers → Limits (diagonal_at f i) (source_at f i)

-- links that leave the grid are 0
pub record Edges (f : Film) : Type 0 where
  pub some : 0 < f.columns
  pub right : (k : ℕ) → k < size_of f → f.columns ≤ column_of f k + 1 → right_at f k ≡ 0
  pub up : (k : ℕ) → k < size_of f → f.rows ≤ row_of f k + 1 → up_at f k ≡ 0

-- r is the cell i of the film, with numbers for pressures, and within its limits
pub record IsCell (r : Cell) (f : Film) (numbers : List ℕ) (i : ℕ) : Type 0 where
  pub diagonal : r.diagonal ≡ diagonal_at f i
  pub pull : r.pull ≡ pull_of f numbers i
  pub source : r.source ≡ source_at f i
  pub bounded : Bounded r

-- r is that cell as it is loaded: its pull is worked out by index, and where the links that leave the grid are 0 it is document 01's
pub record Loaded (r : Cell) (f : Film) (numbers : List ℕ) (i : ℕ) : Type 0 where
  pub diagonal : r.diagonal ≡ diagonal_at f i
  pub by_index : r.pull ≡ pull_by f.columns f.rights f.ups numbers i
  pub pull : Edges f → i < size_of f → r.pull ≡ pull_of f numbers i
  pub source : r.source ≡ source_at f i
  pub bounded : Bounded r
