-- Orderings that name every cell once: by index, by falling index, and those that pass a test first.
use mathlib.Core.Path.{◌≡◌, refl, sym, ap, ◌∙◌}
use mathlib.Core.Bool.{Bool, true, false, not, cond, true≢false}
use mathlib.Core.List.{List, [], ◌∷◌, ◌++◌}
use Prim.Native.Nat.{ℕ, zero, suc, ◌+◌, ◌-◌, ◌<◌, suc-le-suc}
use native.Mathlib.Nat.{le_antisymm, le_of_suc-le-suc, lt-suc_self}
use native.Mathlib.Decide.{dec_lt}
use native.Mathlib.Omega.{arith}
use borrow.Author.Tests.{not-true}
use lib.ListN.{length, get_or, length-append, get_or-append}
use lib.Seq.{get_or-append-add}
use Rattle.monotone.specs.Ordering.{Permutes, picks, split_order}

pub permutes_up : (n : ℕ) → Permutes n (λ k. k)
permutes_up n = record { cell = λ k h. h; every = λ i h. (i, h, refl); once = λ j k a b e. e }

pub permutes_down : (n : ℕ) → Permutes n (λ k. n - 1 - k)
permutes_down n =
    record {
      cell = λ k h. omega arith;
      every = λ i h. (n - 1 - i, omega arith, omega arith);
      once = λ j k a b e. omega arith;
    }

-- every number in the list has the property
abbrev All : (ℕ → Type 0) → List ℕ → Type 0
All P l = (k : ℕ) → k < length l → P (get_or l k 0)

all_append : (P : ℕ → Type 0) (l m : List ℕ) → All P l → All P m → All P (l ++ m)
all_append P [] m a b k h = b k h
all_append P (x ∷ l) m a b zero h = a 0 (omega arith)
all_append P (x ∷ l) m a b (suc k) h = all_append P l m (λ j g. a (suc j) (suc-le-suc g)) b k (le_of_suc-le-suc h)

-- i stands in l
Has : List ℕ → ℕ → Type 0
Has l i = (k : ℕ) × (k < length l) × (get_or l k 0 ≡ i)

has_left : (l m : List ℕ) (i : ℕ) → Has l i → Has (l ++ m) i
unfolding Has
has_left l m i h = (h.0, simp length-append (omega (arith, h.1)), get_or-append l m 0 h.0 h.1 ∙ h.2)

has_right : (l m : List ℕ) (i : ℕ) → Has m i → Has (l ++ m) i
unfolding Has
has_right l m i h = (length l + h.0, simp length-append (omega (arith, h.1)), get_or-append-add l m h.0 0 ∙ h.2)

-- each number in the list is above those before it
abbrev Rising : List ℕ → Type 0
Rising l = (j k : ℕ) → j < k → k < length l → get_or l j 0 < get_or l k 0

rising_more : (l : List ℕ) (n : ℕ) → Rising l → All (λ x. x < n) l → Rising (l ++ n ∷ [])
rising_more l n r a j k h b =
    elim (dec_lt k (length l)) [
      | yes i ↦ rw (get_or-append l (n ∷ []) 0 j (omega arith), get_or-append l (n ∷ []) 0 k i) (r j k h i)
      | no i ↦ last (le_antisymm (omega (arith, length-append l (n ∷ []))) (omega arith))
    ]
  where
    last : k ≡ length l + 0 → get_or (l ++ n ∷ []) j 0 < get_or (l ++ n ∷ []) k 0
    last e = rw (get_or-append l (n ∷ []) 0 j (omega arith), e, get_or-append-add l (n ∷ []) 0 0) (a j (omega arith))

rising_once : (l : List ℕ) → Rising l → (j k : ℕ) → j < length l → k < length l → get_or l j 0 ≡ get_or l k 0 → j ≡ k
rising_once l r j k a b e =
    elim (dec_lt j k) [
      | yes h ↦ absurd (omega (arith, r j k h b))
      | no h ↦ elim (dec_lt k j) [ yes g ↦ absurd (omega (arith, r k j g a)) | no g ↦ le_antisymm (omega arith) (omega arith) ]
    ]

module _ (t : ℕ → Bool) where
  -- a number below n that passes the test
  abbrev Passes : ℕ → ℕ → Type 0
  Passes n x = (x < n) × (t x ≡ true)

  picks_pass : (n : ℕ) → All (Passes n) (picks t n)
  picks_pass zero = λ k h. absurd (omega arith)
  picks_pass (suc n) = go (t n) refl (λ k h. (omega (arith, (picks_pass n k h).0), (picks_pass n k h).1))
    where
      one : t n ≡ true → All (Passes (suc n)) (n ∷ [])
      one e zero h = (lt-suc_self n, e)
      one e (suc k) h = absurd (omega arith)

      go : (b : Bool) → t n ≡ b → All (Passes (suc n)) (picks t n) → All (Passes (suc n)) (cond b (picks t n ++ n ∷ []) (picks t n))
      go true e r = all_append (Passes (suc n)) (picks t n) (n ∷ []) r (one e)
      go false e r = r

  picks_rising : (n : ℕ) → Rising (picks t n)
  picks_rising zero = λ j k h b. absurd (omega arith)
  picks_rising (suc n) = go (t n) (picks_rising n)
    where
      go : (b : Bool) → Rising (picks t n) → Rising (cond b (picks t n ++ n ∷ []) (picks t n))
      go true r = rising_more (picks t n) n r (λ k h. (picks_pass n k h).0)
      go false r = r

  picks_has : (n i : ℕ) → i < n → t i ≡ true → Has (picks t n) i
  unfolding Has
  picks_has zero i h e = absurd (omega arith)
  picks_has (suc n) i h e = go (t n) refl (λ l. picks_has n i l e)
    where
      go : (b : Bool) → t n ≡ b → (i < n → Has (picks t n) i) → Has (cond b (picks t n ++ n ∷ []) (picks t n)) i
      go true f r =
          elim (dec_lt i n) [
            | yes l ↦ has_left (picks t n) (n ∷ []) i (r l)
            | no l ↦ has_right (picks t n) (n ∷ []) i (0, omega arith, le_antisymm (omega arith) (omega arith))
          ]
      go false f r =
          elim (dec_lt i n) [
            | yes l ↦ r l
            | no l ↦ absurd (true≢false (sym e ∙ ap t (le_antisymm (omega arith) (omega arith)) ∙ f))
          ]

pub picks_length : (t : ℕ → Bool) (n : ℕ) → length (picks t n) + length (picks (λ i. not (t i)) n) ≡ n
picks_length t zero = refl
picks_length t (suc n) = go (t n) (picks_length t n)
  where
    go : (b : Bool) → length (picks t n) + length (picks (λ i. not (t i)) n) ≡ n
        → length (cond b (picks t n ++ n ∷ []) (picks t n)) + length (cond (not b) (picks (λ i. not (t i)) n ++ n ∷ []) (picks (λ i. not (t i)) n)) ≡ suc n
    go true e = simp length-append (omega arith)
    go false e = simp length-append (omega arith)

module _ (t : ℕ → Bool) (n : ℕ) where
  -- those that pass, and the others
  abbrev passed : List ℕ
  passed = picks t n

  abbrev others : List ℕ
  others = picks (λ i. not (t i)) n

  both_length : length (passed ++ others) ≡ n
  both_length = length-append passed others ∙ picks_length t n

  -- a place of the ordering is a place among those that pass, or one among the others
  data Place (k : ℕ) : Type 0 where
    front : k < length passed → split_order t n k ≡ get_or passed k 0 → Place k
    back : (m : ℕ) → k ≡ length passed + m → m < length others → split_order t n k ≡ get_or others m 0 → Place k

  place : (k : ℕ) → k < n → Place k
  place k h =
      elim (dec_lt k (length passed)) [
        | yes l ↦ front l (get_or-append passed others 0 k l)
        | no l ↦ at_back (k - length passed) (omega arith)
      ]
    where
      at_back : (m : ℕ) → k ≡ length passed + m → Place k
      at_back m e = back m e (omega (arith, picks_length t n)) (rw e (get_or-append-add passed others m 0))

  -- no cell both passes and does not
  apart : (j m : ℕ) → j < length passed → m < length others → get_or passed j 0 ≡ get_or others m 0 → ⊥
  apart j m a b e =
      true≢false (sym (picks_pass t n j a).1 ∙ ap t e ∙ not-true (t (get_or others m 0)) (picks_pass (λ i. not (t i)) n m b).1)

  split_once : (j k : ℕ) → Place j → Place k → split_order t n j ≡ split_order t n k → j ≡ k
  split_once j k (front a p) (front b q) e = rising_once passed (picks_rising t n) j k a b (sym p ∙ e ∙ q)
  split_once j k (front a p) (back m f b q) e = absurd (apart j m a b (sym p ∙ e ∙ q))
  split_once j k (back m f a p) (front b q) e = absurd (apart k m b a (sym q ∙ sym e ∙ p))
  split_once j k (back l f a p) (back m g b q) e =
      let h : l ≡ m = rising_once others (picks_rising (λ i. not (t i)) n) l m a b (sym p ∙ e ∙ q) in
      omega arith

  split_has : (i : ℕ) → i < n → Has (passed ++ others) i
  split_has i h = go (t i) refl
    where
      go : (b : Bool) → t i ≡ b → Has (passed ++ others) i
      go true e = has_left passed others i (picks_has t n i h e)
      go false e = has_right passed others i (picks_has (λ j. not (t j)) n i h (ap not e))

  pub permutes_split : Permutes n (split_order t n)
  unfolding Has
  permutes_split =
      record {
        cell = λ k h.
            all_append (λ x. x < n) passed others (λ j g. (picks_pass t n j g).0) (λ j g. (picks_pass (λ i. not (t i)) n j g).0) k
            (rw both_length h);
        every = λ i h. found i (split_has i h);
        once = λ j k a b. split_once j k (place j a) (place k b);
      }
    where
      found : (i : ℕ) → Has (passed ++ others) i → (k : ℕ) × (k < n) × (split_order t n k ≡ i)
      found i h = (h.0, rw both_length at h.1, h.2)
