-- W4, of the compiled form of `stencil::scaled`.
use mathlib.Core.Path.{refl}
use mathlib.Core.List.{[]}
use Rattle.stencil.proofs.Widths.{Narrow}
use Rattle.stencil.proofs.scaled.Code.{code}

-- W4: a cube and a factor
pub scaled_narrow : Narrow code []
unfolding code
scaled_narrow = (refl, refl, refl)
