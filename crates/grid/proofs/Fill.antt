-- A table that a loop writes place by place, from the first.
use mathlib.Core.Path.{◌≡◌, refl, sym, ap, ◌∙◌}
use mathlib.Core.List.{List, [], ◌∷◌, ◌++◌}
use Prim.Native.Nat.{ℕ, zero, suc, ◌+◌, ◌<◌}
use native.Mathlib.Numerals.{add-one}
use native.Mathlib.Omega.{arith}
use lib.ListN.{length, get_or, set, take, length-set}
use lib.Seq.{take-suc-set}
use Rattle.model.specs.Lists.{tabulate}
use Rattle.model.proofs.Lists.{tabulate_is}

-- the first i places hold g 0, g 1, .., and the table is as long as it was
pub record Filled {A : Type 0} (g : ℕ → A) (i : ℕ) (before after : List A) : Type 0 where
  pub front : take i after ≡ tabulate i g
  pub len : length after ≡ length before

module _ {A : Type 0} where
  tabulate_suc : (n : ℕ) (g : ℕ → A) → tabulate (suc n) g ≡ tabulate n g ++ g n ∷ []
  tabulate_suc zero g = refl
  tabulate_suc (suc n) g = ap (λ (l : List A). g 0 ∷ l) (tabulate_suc n (λ i. g (suc i)))

  pub fill_none : (g : ℕ → A) (before : List A) → Filled g 0 before before
  fill_none g before = record { front = refl; len = refl }

  -- one more place is written
  pub fill_more : (g : ℕ → A) {i : ℕ} {v : A} {before after : List A} → i < length before → v ≡ g i → Filled g i before after
      → Filled g (i + 1) before (set after i v)
  fill_more g {i} {v} {before} {after} h e f =
      record {
        front = rw (add-one, take-suc-set after i v (omega arith), f.front, e) (sym (tabulate_suc i g));
        len = length-set after i v ∙ f.len;
      }

-- the same of the first places alone
pub filled_more : {A : Type 0} (g : ℕ → A) {i : ℕ} {v : A} (table : List A) → i < length table → v ≡ g i → take i table ≡ tabulate i g
    → take (i + 1) (set table i v) ≡ tabulate (i + 1) g
filled_more g {i} {v} table h e f = (fill_more g {before = table} h e record { front = f; len = refl }).front

-- the first n places hold a list's elements: they are that list
pub fill_copy : (l : List ℕ) {before after : List ℕ} → Filled (λ k. get_or l k 0) (length l) before after → take (length l) after ≡ l
fill_copy l f = f.front ∙ sym (tabulate_is (length l) (λ k. get_or l k 0) 0 l refl (λ i h. refl))
