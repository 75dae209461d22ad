-- W4, of the compiled form of `stencil::cube`.
use mathlib.Core.Path.{refl}
use mathlib.Core.List.{[]}
use Rattle.stencil.proofs.Widths.{Narrow}
use Rattle.stencil.proofs.cube.Code.{code}

-- W4: a thickness and its cube
pub cube_narrow : Narrow code []
unfolding code
cube_narrow = (refl, refl, refl)
