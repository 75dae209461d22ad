-- Document 01, "Coefficients", second paragraph: a film as the numeric calls take it, the slack of a cell, and dominance.
use Rattle.std.specs.Prelude.{◌≡◌, Bool, true, false, List, [], ◌∷◌, ◌++◌, ℕ, ◌+◌, ◌-◌, ◌*◌, ◌/◌, ◌%◌, ◌≤◌, ◌<◌, ltb, ℤ, pos, ◌+ℤ◌, ◌-ℤ◌, length, get_or}
use Rattle.monotone.specs.Links.{pull}
use Rattle.monotone.specs.Rule.{Rule}
use Rattle.monotone.specs.Linear.{System, rule_of}
use Rattle.model.specs.Integers.{negative, positive_part, negative_part}
use Rattle.model.specs.declared.Head.{Head}

-- coefficients and weights by cell index; an up link leads to the next row
pub record Film : Type 0 where
  pub rows : ℕ
  pub columns : ℕ
  pub ceiling : ℕ
  pub weights : List ℕ
  pub diagonals : List ℕ
  pub rights : List ℕ
  pub ups : List ℕ
  pub sources : List ℤ

-- a film as a call is lent it
abbrev pub film_of : Head → List ℕ → List ℕ → List ℕ → List ℕ → List ℤ → Film
film_of h weights diagonals rights ups sources =
    record {
      rows = h.rows;
      columns = h.columns;
      ceiling = h.ceiling;
      weights = weights;
      diagonals = diagonals;
      rights = rights;
      ups = ups;
      sources = sources;
    }

-- a film with other weights
abbrev pub weighted : Film → List ℕ → Film
weighted f weights =
    record {
      rows = f.rows;
      columns = f.columns;
      ceiling = f.ceiling;
      weights = weights;
      diagonals = f.diagonals;
      rights = f.rights;
      ups = f.ups;
      sources = f.sources;
    }

-- the number of cells, N
abbrev pub size_of : Film → ℕ
size_of f = f.rows * f.columns

-- row and column of a cell, counted from 0
abbrev pub row_of : Film → ℕ → ℕ
row_of f i = i / f.columns

abbrev pub column_of : Film → ℕ → ℕ
column_of f i = i % f.columns

abbrev pub diagonal_at : Film → ℕ → ℕ
diagonal_at f i = get_or f.diagonals i 0

abbrev pub right_at : Film → ℕ → ℕ
right_at f i = get_or f.rights i 0

abbrev pub up_at : Film → ℕ → ℕ
up_at f i = get_or f.ups i 0

abbrev pub source_at : Film → ℕ → ℤ
source_at f i = get_or f.sources i (pos 0)

abbrev pub weight_at : Film → ℕ → ℕ
weight_at f i = get_or f.weights i 0

-- a link, if the cell at its other end is inside the grid
abbrev pub link_if : Bool → ℕ → ℕ → List (ℕ × ℕ)
link_if true cell link = (cell, link) ∷ []
link_if false cell link = []

-- the neighbours inside the grid, each with its link: in the cell's row, and in the rows before and after it
unfoldable pub beside : Film → ℕ → List (ℕ × ℕ)
beside f i =
    link_if (ltb 0 (column_of f i)) (i - 1) (right_at f (i - 1))
    ++ link_if (ltb (column_of f i + 1) f.columns) (i + 1) (right_at f i)

unfoldable pub across : Film → ℕ → List (ℕ × ℕ)
across f i =
    link_if (ltb 0 (row_of f i)) (i - f.columns) (up_at f (i - f.columns))
    ++ link_if (ltb (row_of f i + 1) f.rows) (i + f.columns) (up_at f i)

unfoldable pub neighbours : Film → ℕ → List (ℕ × ℕ)
unfolding beside across
neighbours f i = beside f i ++ across f i

-- the sum of link × neighbour's pressure inside the grid
abbrev pub pull_of : Film → List ℕ → ℕ → ℕ
pull_of f p i = pull (neighbours f i) (λ j. get_or p j 0)

-- diagonal × pressure − pull + source
abbrev pub slack_of : ℕ → ℕ → ℤ → ℕ → ℤ
slack_of diagonal pull source pressure = pos (diagonal * pressure) -ℤ pos pull +ℤ source

-- document 01: the spare of a cell in a field
abbrev pub slack : Film → List ℕ → ℕ → ℤ
slack f p i = slack_of (diagonal_at f i) (pull_of f p i) (source_at f i) (get_or p i 0)

-- document 01: the weighted row sum, the slack with weights for pressures and source 0
abbrev pub dominance : Film → ℕ → ℤ
dominance f i = slack_of (diagonal_at f i) (pull_of f f.weights i) (pos 0) (weight_at f i)

-- document 01: the field meets the film
pub record Feasible (f : Film) (p : List ℕ) : Type 0 where
  pub len : length p ≡ size_of f
  pub low : (i : ℕ) → i < size_of f → get_or p i 0 ≤ f.ceiling
  pub met : (i : ℕ) → i < size_of f → negative (slack f p i) ≡ false

-- document 01: the least field, in each cell the lowest pressure that any field meeting the film has there
pub record Least (f : Film) (q : List ℕ) : Type 0 where
  pub len : length q ≡ size_of f
  pub under : (i : ℕ) → i < size_of f → (z : List ℕ) → Feasible f z → get_or q i 0 ≤ get_or z i 0
  pub taken : (i : ℕ) → i < size_of f → (z : List ℕ) × Feasible f z × (get_or z i 0 ≡ get_or q i 0)

-- document 01: the least field at or above a start that meets the film
pub record LeastFrom (f : Film) (start q : List ℕ) : Type 0 where
  pub meets : Feasible f q
  pub above : (i : ℕ) → i < size_of f → get_or start i 0 ≤ get_or q i 0
  pub under : (i : ℕ) → i < size_of f → (z : List ℕ) → Feasible f z → ((j : ℕ) → j < size_of f → get_or start j 0 ≤ get_or z j 0)
      → get_or q i 0 ≤ get_or z i 0

-- the film's complementarity problem, as the theory takes it
abbrev pub system_of : Film → System
system_of f =
    record {
      size = size_of f;
      ceiling = f.ceiling;
      links = neighbours f;
      diagonal = diagonal_at f;
      positive_part = λ i. positive_part (source_at f i);
      negative_part = λ i. negative_part (source_at f i);
    }

-- the rule that a film's runs relax by
abbrev pub rule : Film → Rule
rule f = rule_of (system_of f)
