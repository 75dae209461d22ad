-- W4, of the compiled form of `stencil::links_of`.
use mathlib.Core.Path.{refl}
use mathlib.Core.List.{[], ◌∷◌}
use Rattle.stencil.proofs.cube.Symbol.{code as #cube}
use Rattle.stencil.proofs.scaled.Symbol.{code as #scaled}
use Rattle.stencil.proofs.gathered.Symbol.{code as #gathered}
use Rattle.stencil.proofs.Widths.{Narrow}
use Rattle.stencil.proofs.links_of.Code.{code}

-- W4: thicknesses, factors, cubes, links and diagonal
pub links_of_narrow : Narrow code (#cube ∷ #gathered ∷ #scaled ∷ [])
unfolding code
links_of_narrow = (refl, refl, refl)
