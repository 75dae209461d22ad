-- Reynolds' equation in its difference form on half-way thicknesses (source document 000, section 2.1; document 01, "Sources").
--
--   wedge · ∂h/∂x − ∂/∂x (h³ ∂p/∂x) − ∂/∂y (h³ ∂p/∂y)
--
-- is differenced over the four sides of a cell, with h on a side half-way between the two cells that it parts. All thicknesses are
-- doubled, so that everything is whole: twice the half-way thickness is the sum of the two, and the cube of the sum is eight times
-- the cube. The pressure on the boundary ring is 0.
--
-- With grid steps Δx along the rows and Δy across them, the difference of flux along is divided by Δx² and that across by Δy². The whole is taken
-- S² times, for some length S, so that the two factors are whole numbers: along is S² / Δx² and across S² / Δy². So along / across is the squared ratio
-- of steps, (Δy / Δx)²: a pad gauged at twice as coarse a step across has along 4 and across 1, equal steps have 1 and 1. The wedge term, by S² / Δx,
-- has that in the wedge number.
use Rattle.std.specs.Prelude.{Bool, cond, ◌&&◌, List, ℕ, ◌+◌, ◌-◌, ◌*◌, leb, ℤ, pos, ◌+ℤ◌, ◌-ℤ◌, ◌*ℤ◌, get_or}
use Rattle.model.specs.Gauge.{Gauge, thickness_at, factors_of}

module _ (g : Gauge) (p : List ℕ) where
  -- whether (r, c) is a cell, and not of the ring
  abbrev pub is_cell : ℕ → ℕ → Bool
  is_cell r c = leb 1 r && leb r g.rows && leb 1 c && leb c g.columns

  abbrev pub pressure_at : ℕ → ℕ → ℕ
  pressure_at r c = cond (is_cell r c) (get_or p ((r - 1) * g.columns + (c - 1)) 0) 0

  -- twice the half-way thickness of neighbouring cells (r, c) and (s, d)
  abbrev pub doubled : ℕ → ℕ → ℕ → ℕ → ℕ
  doubled r c s d = thickness_at g r c + thickness_at g s d

  abbrev pub cube : ℕ → ℕ
  cube h = h * h * h

  -- h³ × the difference of pressure from (r, c) to (s, d)
  abbrev pub flux : ℕ → ℕ → ℕ → ℕ → ℤ
  flux r c s d = pos (cube (doubled r c s d)) *ℤ (pos (pressure_at s d) -ℤ pos (pressure_at r c))

  -- the difference of flux along the row, and across the rows, each by the factor of its step
  abbrev pub along_row : ℕ → ℕ → ℤ
  along_row r c = pos (factors_of g.steps).along *ℤ (flux r c r (c + 1) -ℤ flux r (c - 1) r c)

  abbrev pub across_rows : ℕ → ℕ → ℤ
  across_rows r c = pos (factors_of g.steps).across *ℤ (flux r c (r + 1) c -ℤ flux (r - 1) c r c)

  abbrev pub wedge_term : ℕ → ℕ → ℤ
  wedge_term r c = g.wedge *ℤ (pos (thickness_at g r (c + 1)) -ℤ pos (thickness_at g r (c - 1)))

  -- what the equation leaves at cell (r, c): 0 in the full film, at least 0 where it cavitates
  abbrev pub reynolds : ℕ → ℕ → ℤ
  reynolds r c = wedge_term r c -ℤ (along_row r c +ℤ across_rows r c)
