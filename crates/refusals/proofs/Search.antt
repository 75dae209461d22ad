-- A search for the lowest cell at which a test finds a fault.
use mathlib.Core.Path.{◌≡◌, refl, sym, ◌∙◌}
use mathlib.Core.Bool.{Bool, true, false}
use Prim.Native.Nat.{ℕ, ◌+◌, ◌*◌, ◌≤◌, ◌<◌}
use native.Mathlib.Nat.{le_antisymm}
use native.Mathlib.Decide.{dec_lt}
use native.Mathlib.Omega.{arith}
use borrow.Author.Tests.{lt-ltb, le-ltb, ltb-false}
use Rattle.model.specs.Lists.{first_of}
use Rattle.model.specs.Refusals.{pass, fail, fail_first}
use Rattle.model.proofs.Lists.{first_none, first_found, first_stays, first_below}
use Rattle.model.proofs.Checks.{fail_if_pass}

-- what a search of n cells knows that has come to cell i
pub record Searched (bad : ℕ → Bool) (n i : ℕ) : Type 0 where
  pub within : i ≤ n
  pub none : first_of bad i ≡ i

pub search_begins : (bad : ℕ → Bool) (n : ℕ) → Searched bad n 0
unfolding first_of
search_begins bad n = record { within = omega arith; none = refl }

-- at cell i the test answers b: the search goes on, or fails at the cell's place
module _ {bad : ℕ → Bool} {n i : ℕ} {b : Bool} (s : Searched bad n i) (h : i < n) (answer : b ≡ bad i) where
  pub search_next : b ≡ false → Searched bad n (i + 1)
  search_next e = record { within = omega arith; none = first_none bad i s.none (sym answer ∙ e) }

  pub search_fails : (number : ℕ) (place : ℕ → ℕ) → b ≡ true → fail number (place i) ≡ fail_first bad n number place
  search_fails number place e = rw (first_found bad i n h s.none (sym answer ∙ e), lt-ltb i n h)

-- past the last cell all have passed
pub search_passes : {bad : ℕ → Bool} {n i : ℕ} (number : ℕ) (place : ℕ → ℕ) → Searched bad n i → n ≤ i
    → pass ≡ fail_first bad n number place
search_passes {bad} {n} {i} number place s h =
    let e : i ≡ n = omega arith in
    let z : first_of bad n ≡ n = rw e at s.none in
    rw (z, le-ltb n n (omega arith))

-- A search in parts: where the first k cells have passed, it has come to cell k; and a fault among them is the fault of all.
module _ (bad : ℕ → Bool) (number : ℕ) (place : ℕ → ℕ) {k n : ℕ} (l : k ≤ n) where
  pub search_come : fail_first bad k number place ≡ pass → Searched bad n k
  search_come e =
      record { within = l; none = le_antisymm (first_below bad k) (ltb-false (first_of bad k) k (fail_if_pass _ number _ e)) }

  pub search_ends : {a b : ℕ} → fail a b ≡ fail_first bad k number place → fail a b ≡ fail_first bad n number place
  search_ends {a} {b} e =
      elim (dec_lt (first_of bad k) k) [
        | yes h ↦
            let s : first_of bad n ≡ first_of bad k = first_stays bad k (first_of bad k) h refl n l in
            rw (s, lt-ltb (first_of bad k) n (omega arith)) (rw (lt-ltb (first_of bad k) k h) at e)
        | no h ↦ let none : fail a b ≡ pass = rw (le-ltb (first_of bad k) k (omega arith)) at e in cc
      ]

-- places one apart
module _ (bad : ℕ → Bool) (n number : ℕ) where
  pub one_apart : (at : ℕ) → fail_first bad n number (λ i. at + 1 * i) ≡ fail_first bad n number (λ i. at + i)
  one_apart at = let e : at + 1 * first_of bad n ≡ at + first_of bad n = omega arith in rw e

  pub one_apart_from_0 : fail_first bad n number (λ i. 0 + 1 * i) ≡ fail_first bad n number (λ i. i)
  one_apart_from_0 = let e : 0 + 1 * first_of bad n ≡ first_of bad n = omega arith in rw e
