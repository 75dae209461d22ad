-- The coefficients of one cell, from the thicknesses of the cell and of the four beside it, and the factors of the film's steps.
use Rattle.std.specs.Prelude.{Bool, cond, ℕ, ◌+◌, ℤ, pos, ◌-ℤ◌, ◌*ℤ◌}
use Rattle.model.specs.Coefficients.{link_of}
use Rattle.model.specs.declared.Factors.{Factors}
use Rattle.stencil.specs.declared.Around.{Around}
use Rattle.stencil.specs.declared.Links.{Links}
use Rattle.stencil.specs.declared.Coefficients.{Coefficients}

-- wedge × (thickness of the next column − thickness of the one before)
abbrev pub source_of : ℤ → ℕ → ℕ → ℤ
source_of wedge next last = wedge *ℤ (pos next -ℤ pos last)

-- the four links, and their sum
abbrev pub links_by : ℕ → ℕ → ℕ → ℕ → Links
links_by left right down up = record { left = left; right = right; down = down; up = up; sum = left + right + down + up }

abbrev pub links_of : Around → Factors → Links
links_of a f =
    links_by (link_of f.along a.own a.left) (link_of f.along a.own a.right) (link_of f.across a.own a.down)
    (link_of f.across a.own a.up)

-- a link is counted if it stays in the grid
abbrev pub coefficients_of : Around → Factors → ℤ → Bool → Bool → Coefficients
coefficients_of a f wedge in_row in_column =
    record {
      diagonal = (links_of a f).sum;
      right = cond in_row (links_of a f).right 0;
      up = cond in_column (links_of a f).up 0;
      source = source_of wedge a.right a.left;
    }
