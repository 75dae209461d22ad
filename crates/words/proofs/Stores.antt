-- The bytes of numbers, one after another, of every width.
use mathlib.Core.Path.{◌≡◌, refl, sym, ap, ◌∙◌}
use mathlib.Core.List.{List, [], ◌∷◌, ◌++◌, append_assoc}
use Prim.Native.Nat.{ℕ, ◌+◌, ◌*◌, ◌≤◌}
use native.Mathlib.Omega.{arith}
use lib.ListN.{length, take}
use lib.Seq.{length-take-le}
use Rattle.model.specs.Bytes.{listed}
use Rattle.model.proofs.Codes.{Code, listed_length}

pub listed_append : {A : Type 0} (write : A → List ℕ) (xs ys : List A) → listed write (xs ++ ys) ≡ listed write xs ++ listed write ys
listed_append write [] ys = refl
listed_append write (x ∷ xs) ys =
    ap (λ l. write x ++ l) (listed_append write xs ys) ∙ sym (append_assoc (write x) (listed write xs) (listed write ys))

-- number i goes to the place after those before it
pub listed_front : {A : Type 0} {w : ℕ} {write : A → List ℕ} {read : List ℕ → ℕ → A} {Fits : A → Type 0} → Code w write read Fits
    → (at i : ℕ) (xs : List A) → i ≤ length xs → at + w * i ≡ at + length (listed write (take i xs))
listed_front {w = w} c at i xs h = omega (arith, listed_length c (take i xs), ap (λ n. w * n) (length-take-le i xs h))
