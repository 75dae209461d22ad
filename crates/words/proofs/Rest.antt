-- A file from an offset on, and its first number, of every width.
use mathlib.Core.Path.{◌≡◌}
use mathlib.Core.List.{List}
use Prim.Native.Nat.{ℕ, ◌-◌}
use native.Mathlib.Nat.{add-zero, add_assoc}
use native.Mathlib.Omega.{arith}
use lib.ListN.{length, take, drop, length-drop}
use lib.Seq.{take_all, get_or-drop}
use Rattle.model.specs.Bytes.{word_at, long_at, quad_at}

pub rest : (l : List ℕ) (at : ℕ) → take (length l - at) (drop at l) ≡ drop at l
rest l at = take_all (length l - at) (drop at l) (omega (arith, length-drop at l))

pub word_from : (l : List ℕ) (at : ℕ) → word_at (take (length l - at) (drop at l)) 0 ≡ word_at l at
word_from l at = rw (rest l at) (simp (get_or-drop, add-zero))

pub long_from : (l : List ℕ) (at : ℕ) → long_at (take (length l - at) (drop at l)) 0 ≡ long_at l at
long_from l at = rw (rest l at) (simp (get_or-drop, add-zero, add_assoc))

pub quad_from : (l : List ℕ) (at : ℕ) → quad_at (take (length l - at) (drop at l)) 0 ≡ quad_at l at
quad_from l at = rw (rest l at) (simp (get_or-drop, add-zero, add_assoc))
