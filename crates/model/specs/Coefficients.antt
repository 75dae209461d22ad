-- Document 01, "Coefficients", first paragraph, with document 02's grid steps (W2): a film's coefficients from its thicknesses, wedge number and steps.
use Rattle.std.specs.Prelude.{cond, ℕ, ◌+◌, ◌-◌, ◌*◌, ◌/◌, ◌%◌, ltb, ℤ, pos, ◌-ℤ◌, ◌*ℤ◌}
use Rattle.model.specs.Lists.{tabulate}
use Rattle.model.specs.Gauge.{Gauge, thickness_at, factors_of}
use Rattle.model.specs.Film.{Film}

-- the link of two cells with these thicknesses, by the factor of its direction
abbrev pub link_of : ℕ → ℕ → ℕ → ℕ
link_of factor a b = factor * ((a + b) * (a + b) * (a + b))

-- cell (r, c) runs from (1, 1)
module _ (g : Gauge) (r c : ℕ) where
  -- a link within the row, and one between rows: those to the ring too
  abbrev pub row_link : ℕ → ℕ
  row_link d = link_of (factors_of g.steps).along (thickness_at g r c) (thickness_at g r d)

  abbrev pub column_link : ℕ → ℕ
  column_link s = link_of (factors_of g.steps).across (thickness_at g r c) (thickness_at g s c)

  abbrev pub left_link : ℕ
  left_link = row_link (c - 1)

  abbrev pub right_link : ℕ
  right_link = row_link (c + 1)

  abbrev pub down_link : ℕ
  down_link = column_link (r - 1)

  abbrev pub up_link : ℕ
  up_link = column_link (r + 1)

  -- all four sides count, those to the ring too
  abbrev pub formed_diagonal : ℕ
  formed_diagonal = left_link + right_link + down_link + up_link

  -- a link that leaves the grid is none of the matrix's
  abbrev pub formed_right : ℕ
  formed_right = cond (ltb c g.columns) right_link 0

  abbrev pub formed_up : ℕ
  formed_up = cond (ltb r g.rows) up_link 0

  -- wedge × (thickness of the next column − thickness of the one before); the steps do not touch it
  abbrev pub formed_source : ℤ
  formed_source = g.wedge *ℤ (pos (thickness_at g r (c + 1)) -ℤ pos (thickness_at g r (c - 1)))

-- a number for each cell, by index
abbrev pub by_cell : {A : Type 0} → Gauge → (ℕ → ℕ → A) → ℕ → A
by_cell g number i = number (i / g.columns + 1) (i % g.columns + 1)

abbrev pub formed : Gauge → Film
formed g =
    record {
      rows = g.rows;
      columns = g.columns;
      ceiling = g.ceiling;
      weights = g.weights;
      diagonals = tabulate (g.rows * g.columns) (by_cell g (formed_diagonal g));
      rights = tabulate (g.rows * g.columns) (by_cell g (formed_right g));
      ups = tabulate (g.rows * g.columns) (by_cell g (formed_up g));
      sources = tabulate (g.rows * g.columns) (by_cell g (formed_source g));
    }
