-- `float::positive` meets its contract: the literal 0.0 and the whole number 0 are one float. Assumes nothing.
use mathlib.Core.Path.{refl}
use lib.Ieee.{of_bits, of_int}
use Rattle.float.proofs.positive.Goals as goal

pub returns : goal.returns
unfolding of_bits of_int
returns c = refl
