-- A film's numbers at the start of buffers that hold any film's.
use mathlib.Core.Path.{◌≡◌, sym}
use mathlib.Core.List.{List}
use Prim.Native.Nat.{ℕ, ◌≤◌}
use native.Mathlib.Omega.{arith}
use lib.ListN.{length, take, replicate}
use lib.Seq.{length-take-le}
use Rattle.model.proofs.Lists.{take_same}

pub part_length : {A : Type 0} {n most : ℕ} (buffer : List A) → n ≤ most → length buffer ≡ most → n ≡ length (take n buffer)
part_length buffer low e = sym (length-take-le _ buffer (omega arith))

-- the start of a field of zeros
pub take_zeros : (n m : ℕ) {k : ℕ} → n ≤ m → n ≡ k → take {A = ℕ} n (replicate m 0) ≡ replicate k 0
take_zeros = take_same 0
