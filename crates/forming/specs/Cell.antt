-- The thicknesses around a cell, its coefficients by row and column, and the lists that they fill.
use Rattle.std.specs.Prelude.{◌≡◌, List, ℕ, ◌+◌, ◌-◌, ◌≤◌, ltb, ℤ, length, take}
use Rattle.model.specs.Limits.{side_limit}
use Rattle.model.specs.Lists.{tabulate}
use Rattle.model.specs.Gauge.{Gauge, thickness_at, factors_of}
use Rattle.model.specs.Coefficients.{formed_diagonal, formed_right, formed_up, formed_source, by_cell}
use Rattle.model.specs.File.{cells, ringed}
use Rattle.stencil.specs.Cell.{coefficients_of}
use Rattle.stencil.specs.declared.Around.{Around}
use Rattle.stencil.specs.declared.Coefficients.{Coefficients}

-- the thicknesses at and around the cell in row r and column c, which run from 1
abbrev pub around_of : Gauge → ℕ → ℕ → Around
around_of g r c =
    record {
      own = thickness_at g r c;
      left = thickness_at g r (c - 1);
      right = thickness_at g r (c + 1);
      down = thickness_at g (r - 1) c;
      up = thickness_at g (r + 1) c;
    }

-- the coefficients of cell (r, c)
abbrev pub coefficients_at : Gauge → ℕ → ℕ → Coefficients
coefficients_at g r c = coefficients_of (around_of g r c) (factors_of g.steps) g.wedge (ltb c g.columns) (ltb r g.rows)

-- a shape that has passed its test, with a thickness for each place of the grid and its ring
pub record Ringed (g : Gauge) : Type 0 where
  pub rows_some : 1 ≤ g.rows
  pub rows_low : g.rows ≤ side_limit
  pub columns_some : 1 ≤ g.columns
  pub columns_low : g.columns ≤ side_limit
  pub thicknesses_len : length g.thicknesses ≡ ringed g.rows g.columns

-- there is room for n numbers in each of the four lists
pub record Room (n : ℕ) (diagonals rights ups : List ℕ) (sources : List ℤ) : Type 0 where
  pub diagonals_room : n ≤ length diagonals
  pub rights_room : n ≤ length rights
  pub ups_room : n ≤ length ups
  pub sources_room : n ≤ length sources

-- the four lists begin with the coefficients of a film's first n cells
pub record FormedTo (n : ℕ) (g : Gauge) (diagonals rights ups : List ℕ) (sources : List ℤ) : Type 0 where
  pub diagonals_are : take n diagonals ≡ tabulate n (by_cell g (formed_diagonal g))
  pub rights_are : take n rights ≡ tabulate n (by_cell g (formed_right g))
  pub ups_are : take n ups ≡ tabulate n (by_cell g (formed_up g))
  pub sources_are : take n sources ≡ tabulate n (by_cell g (formed_source g))

-- with those of all its cells
abbrev pub Forming : Gauge → List ℕ → List ℕ → List ℕ → List ℤ → Type 0
Forming g diagonals rights ups sources = FormedTo (cells g.rows g.columns) g diagonals rights ups sources
