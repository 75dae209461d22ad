-- Document 02, W4: "Let every number in it, lengths and indices aside, have 32 bits or fewer", of a function's MIR: the code that its contract is proved of, and that is compiled. There each argument, the result and each number on the way to it
-- is a local with a type, and a constant has the width of the local that it is worked with. The link routine has no length and no index, and no pointer, float or enum, so that none is let through.
use mathlib.Core.Path.{◌≡◌}
use mathlib.Core.Bool.{Bool, true, false, ◌&&◌}
use mathlib.Core.List.{List, [], ◌∷◌}
use lib.Dec.{leb}
use mir.Syntax.{Ty, ty_int, ty_bool, ty_float, ty_ptr, ty_ref, ty_array, ty_unit, ty_struct, ty_enum, ty_param, ty_const, ty_array_p, ty_named, Tys, tnil, tcons, Local, local}
use mir.Val.{bits}
use prog.Wired.{Code, node, threads, Codes, end, and, Members}

abbrev mutual
  narrow : Ty → Bool
  narrow (ty_int w) = leb (bits w) 32
  narrow ty_bool = true
  narrow (ty_float f) = false
  narrow ty_ptr = false
  narrow (ty_ref κ μ τ) = false
  narrow (ty_array τ n) = narrow τ
  narrow ty_unit = true
  narrow (ty_struct s τs) = all_narrow τs
  narrow (ty_enum s τss) = false
  narrow (ty_param n) = false
  narrow (ty_const n) = false
  narrow (ty_array_p τ n) = false
  narrow (ty_named h τs) = false

  all_narrow : Tys → Bool
  all_narrow tnil = true
  all_narrow (tcons τ τs) = narrow τ && all_narrow τs

abbrev narrow_locals : List Local → Bool
narrow_locals [] = true
narrow_locals (local τ h ∷ ls) = narrow τ && narrow_locals ls

abbrev narrow_members : Members → Bool
narrow_members [] = true
narrow_members (m ∷ ms) = narrow_locals m.1.locals && narrow_members ms

abbrev below : Codes → List Code
below end = []
below (and c cs) = c ∷ below cs

-- every number in a function's code has 32 bits or fewer, it calls no foreign routine, and these are all others that it can call: the code that stands below its own
abbrev pub Narrow : Code → List Code → Type 0
Narrow (node ms fs cs) called = (narrow_members ms ≡ true) × (fs ≡ []) × (below cs ≡ called)
Narrow threads called = false ≡ true
