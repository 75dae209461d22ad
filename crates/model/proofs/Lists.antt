-- Laws of lists by index, of the least index that passes a test, of counts and of the greatest.
use mathlib.Core.Path.{◌≡◌, refl, sym, ap, ◌∙◌}
use mathlib.Core.Bool.{Bool, true, false, cond, false≢true}
use mathlib.Core.List.{List, ◌∷◌, ◌++◌}
use Prim.Native.Nat.{ℕ, zero, suc, ◌+◌, ◌≤◌, ◌<◌, max}
use native.Mathlib.Nat.{le_refl, le_antisymm, le_of_suc-le-suc, zero-add, suc-add}
use native.Mathlib.Numerals.{add-one}
use native.Mathlib.Decide.{dec_lt}
use native.Mathlib.Omega.{arith}
use borrow.Author.Tests.{lt-ltb, le-ltb}
use lib.ListN.{length, get_or, take, replicate, get_or-eq_default}
use lib.Seq.{ext_get_or}
use Rattle.model.specs.Lists.{tabulate, first_of, count_below, all_below, greatest}

module _ {A : Type 0} where
  pub tabulate_length : (n : ℕ) (g : ℕ → A) → length (tabulate n g) ≡ n
  tabulate_length zero g = refl
  tabulate_length (suc n) g = ap suc (tabulate_length n (λ i. g (suc i)))

  pub tabulate_at : (n : ℕ) (g : ℕ → A) (d : A) (i : ℕ) → i < n → get_or (tabulate n g) i d ≡ g i
  tabulate_at zero g d i h = absurd (omega arith)
  tabulate_at (suc n) g d zero h = refl
  tabulate_at (suc n) g d (suc i) h = tabulate_at n (λ i. g (suc i)) d i (le_of_suc-le-suc h)

  -- a list is tabulated if it has that length and those elements
  pub tabulate_is : (n : ℕ) (g : ℕ → A) (d : A) (l : List A) → length l ≡ n → ((i : ℕ) → i < n → get_or l i d ≡ g i) → l ≡ tabulate n g
  tabulate_is n g d l e h =
      ext_get_or d l (tabulate n g) (e ∙ sym (tabulate_length n g)) (λ i b. h i (omega arith) ∙ sym (tabulate_at n g d i (omega arith)))

  -- lists by index are equal where their elements are
  pub tabulate_same : (d : A) (n : ℕ) (f g : ℕ → A) → ((i : ℕ) → i < n → f i ≡ g i) → tabulate n f ≡ tabulate n g
  tabulate_same d n f g h = tabulate_is n g d (tabulate n f) (tabulate_length n f) (λ i b. tabulate_at n f d i b ∙ h i b)

-- a list by index, in two parts
-- the start of a list of one number
module _ {A : Type 0} (x : A) where
  front : (n m : ℕ) → n ≤ m → take n (replicate m x) ≡ replicate n x
  front zero m h = refl
  front (suc n) zero h = absurd (omega arith)
  front (suc n) (suc m) h = ap (λ (l : List A). x ∷ l) (front n m (le_of_suc-le-suc h))

  pub take_same : (n m : ℕ) {k : ℕ} → n ≤ m → n ≡ k → take n (replicate m x) ≡ replicate k x
  take_same n m h e = front n m h ∙ ap (λ (k : ℕ). replicate k x) e

pub tabulate_add : (a b : ℕ) (f : ℕ → ℕ) → tabulate (a + b) f ≡ tabulate a f ++ tabulate b (λ j. f (a + j))
tabulate_add zero b f = simp zero-add
tabulate_add (suc a) b f = simp suc-add (ap (λ r. f 0 ∷ r) (tabulate_add a b (λ j. f (suc j))))

-- a bound of its numbers holds of every index, past its end too
pub tabulate_below : (n : ℕ) (f : ℕ → ℕ) (k : ℕ) → 0 < k → ((i : ℕ) → f i < k) → (i : ℕ) → get_or (tabulate n f) i 0 < k
tabulate_below zero f k z h i = z
tabulate_below (suc n) f k z h zero = h 0
tabulate_below (suc n) f k z h (suc i) = tabulate_below n (λ i. f (suc i)) k z (λ i. h (suc i)) i

-- past its end a list counts as 0, so that a bound need be shown for its n numbers only
pub get_d_low : (l : List ℕ) (n k : ℕ) → length l ≡ n → ((i : ℕ) → i < n → get_or l i 0 ≤ k) → (i : ℕ) → get_or l i 0 ≤ k
get_d_low l n k e h i =
    elim (dec_lt i n) [
      | yes b ↦ h i b
      | no b ↦ let z : get_or l i 0 ≡ 0 = get_or-eq_default l 0 {n = i} (omega arith) in omega arith
    ]

-- The least index that passes: what a search that has come to i without finding one knows is `first_of test i ≡ i`.
module _ (test : ℕ → Bool) where
  first_step : (n : ℕ) → first_of test n ≡ n → test n ≡ false → first_of test (suc n) ≡ suc n
  unfolding first_of
  first_step n e f = rw (e, le-ltb n n (le_refl n), f)

  pub first_none : (n : ℕ) → first_of test n ≡ n → test n ≡ false → first_of test (n + 1) ≡ n + 1
  first_none n e f = rw add-one (first_step n e f)

  first_here : (n : ℕ) → first_of test n ≡ n → test n ≡ true → first_of test (suc n) ≡ n
  unfolding first_of
  first_here n e f = rw (e, le-ltb n n (le_refl n), f)

  first_keeps : (n : ℕ) → first_of test n < n → first_of test (suc n) ≡ first_of test n
  unfolding first_of
  first_keeps n h = rw (lt-ltb _ _ h)

  -- once found, it stays found
  pub first_stays : (k i : ℕ) → i < k → first_of test k ≡ i → (n : ℕ) → k ≤ n → first_of test n ≡ i
  first_stays k i h e zero l = absurd (omega arith)
  first_stays k i h e (suc n) l =
      elim (dec_lt n k) [
        | yes a ↦ ap (first_of test) (le_antisymm (omega arith) l) ∙ e
        | no a ↦ let r = first_stays k i h e n (omega arith) in first_keeps n (omega arith) ∙ r
      ]

  pub first_found : (i n : ℕ) → i < n → first_of test i ≡ i → test i ≡ true → first_of test n ≡ i
  first_found i n h e f = first_stays (suc i) i (omega arith) (first_here i e f) n h

  -- by cases: what the search gives, from what it gave for one less
  data Found (n : ℕ) : Type 0 where
    hit : first_of test n < n → test (first_of test n) ≡ true → Found n
    miss : first_of test n ≡ n → ((i : ℕ) → i < n → test i ≡ false) → Found n

  found_more : (n : ℕ) (b : Bool) → test n ≡ b → Found n → Found (suc n)
  found_more n b e (hit h t) = hit (rw (first_keeps n h) (omega arith)) (rw (first_keeps n h) t)
  found_more n true e (miss h m) = hit (rw (first_here n h e) (omega arith)) (rw (first_here n h e) e)
  found_more n false e (miss h m) =
      miss (first_step n h e) (λ i l. elim (dec_lt i n) [ yes b ↦ m i b | no b ↦ ap test (le_antisymm (omega arith) (omega arith)) ∙ e ])

  found : (n : ℕ) → Found n
  unfolding first_of
  found zero = miss refl (λ i h. absurd (omega arith))
  found (suc n) = found_more n (test n) refl (found n)

  -- none passes where the search comes to the end, and what it finds passes
  pub first_miss : (n : ℕ) → n ≤ first_of test n → (i : ℕ) → i < n → test i ≡ false
  first_miss n h = go (found n)
    where
      go : Found n → (i : ℕ) → i < n → test i ≡ false
      go (hit l t) = absurd (omega arith)
      go (miss e m) = m

  pub first_hit : (n : ℕ) → first_of test n < n → test (first_of test n) ≡ true
  first_hit n h = go (found n)
    where
      go : Found n → test (first_of test n) ≡ true
      go (hit l t) = t
      go (miss e m) = absurd (omega arith)

  pub first_below : (n : ℕ) → first_of test n ≤ n
  first_below n = go (found n)
    where
      go : Found n → first_of test n ≤ n
      go (hit l t) = omega arith
      go (miss e m) = omega arith

-- tests that agree below n find the same
pub first_same : (test other : ℕ → Bool) (n : ℕ) → ((i : ℕ) → i < n → test i ≡ other i) → first_of test n ≡ first_of other n
unfolding first_of
first_same test other zero h = refl
first_same test other (suc n) h = rw (first_same test other n (λ i l. h i (omega arith)), h n (omega arith))

-- A test of all numbers below n, and a count of those that pass: one number more, as a loop goes on.
module _ (test : ℕ → Bool) where
  pub all_more : (n : ℕ) → all_below test n ≡ true → test n ≡ true → all_below test (n + 1) ≡ true
  all_more n e f = rw (add-one, f) e

  pub all_fails : (i n : ℕ) → i < n → test i ≡ false → all_below test n ≡ false
  all_fails i zero h e = absurd (omega arith)
  all_fails i (suc n) h e =
      elim (dec_lt i n) [ yes b ↦ go (test n) (all_fails i n b e) | no b ↦ let f : test n ≡ false = ap test (le_antisymm (omega arith) (omega arith)) ∙ e in rw f ]
    where
      go : (t : Bool) → all_below test n ≡ false → cond t (all_below test n) false ≡ false
      go true r = r
      go false r = refl

  both : (t : Bool) (n : ℕ) → cond t (all_below test n) false ≡ true → (t ≡ true) × (all_below test n ≡ true)
  both true n e = (refl, e)
  both false n e = absurd (false≢true e)

  pub all_at : (n : ℕ) → all_below test n ≡ true → (i : ℕ) → i < n → test i ≡ true
  all_at zero e i h = absurd (omega arith)
  all_at (suc n) e i h =
      let t : (test n ≡ true) × (all_below test n ≡ true) = both (test n) n e in
      elim (dec_lt i n) [ yes l ↦ all_at n t.1 i l | no l ↦ ap test (le_antisymm (omega arith) (omega arith)) ∙ t.0 ]

  pub all_true : (n : ℕ) → ((i : ℕ) → i < n → test i ≡ true) → all_below test n ≡ true
  all_true zero h = refl
  all_true (suc n) h = rw (h n (omega arith)) (all_true n (λ i l. h i (omega arith)))

  -- a number that passes is counted
  pub count_hit : (n i : ℕ) → i < n → test i ≡ true → 0 < count_below test n
  count_hit zero i h e = absurd (omega arith)
  count_hit (suc n) i h e =
      elim (dec_lt i n) [
        | yes l ↦ omega (arith, count_hit n i l e)
        | no l ↦ let f : test n ≡ true = ap test (le_antisymm (omega arith) (omega arith)) ∙ e in rw f (omega arith)
      ]

  pub count_more : (n : ℕ) → count_below test (n + 1) ≡ count_below test n + cond (test n) 1 0
  count_more n = rw add-one

  pub count_bound : (n : ℕ) → count_below test n ≤ n
  count_bound zero = le_refl 0
  count_bound (suc n) = go (test n) (count_bound n)
    where
      go : (t : Bool) → count_below test n ≤ n → count_below test n + cond t 1 0 ≤ suc n
      go true h = omega arith
      go false h = omega arith

  -- a count above 0 has a number that passes
  pub count_some : (n : ℕ) → 0 < count_below test n → (i : ℕ) × (i < n) × (test i ≡ true)
  count_some zero h = absurd (omega arith)
  count_some (suc n) h = go (test n) refl h (count_some n)
    where
      go : (t : Bool) → test n ≡ t → 0 < count_below test n + cond t 1 0 → (0 < count_below test n → (i : ℕ) × (i < n) × (test i ≡ true))
          → (i : ℕ) × (i < suc n) × (test i ≡ true)
      go true e p r = (n, omega arith, e)
      go false e p r = let s = r (omega arith) in (s.0, omega (arith, s.1), s.2)

-- The greatest.
module _ (g : ℕ → ℕ) where
  pub greatest_more : (n : ℕ) → greatest g (n + 1) ≡ max (greatest g n) (g n)
  greatest_more n = rw add-one

  pub greatest_above : (n i : ℕ) → i < n → g i ≤ greatest g n
  greatest_above zero i h = absurd (omega arith)
  greatest_above (suc n) i h =
      elim (dec_lt i n) [
        | yes l ↦ omega (arith, greatest_above n i l)
        | no l ↦ let e : g i ≡ g n = ap g (le_antisymm (omega arith) (omega arith)) in omega arith
      ]

  pub greatest_least : (n k : ℕ) → ((i : ℕ) → i < n → g i ≤ k) → greatest g n ≤ k
  greatest_least zero k h = omega arith
  greatest_least (suc n) k h = omega (arith, greatest_least n k (λ i l. h i (omega arith)), h n (omega arith))
