-- W4, of the compiled form of `stencil::gathered`.
use mathlib.Core.Path.{refl}
use mathlib.Core.List.{[]}
use Rattle.stencil.proofs.Widths.{Narrow}
use Rattle.stencil.proofs.gathered.Code.{code}

-- W4: the links and the diagonal
pub gathered_narrow : Narrow code []
unfolding code
gathered_narrow = (refl, refl, refl)
