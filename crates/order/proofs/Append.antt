-- The table of order 2 is written in two parts, the even cells and then the odd ones; and which part of the code serves which order.
use mathlib.Core.Path.{◌≡◌, refl, ap, ◌∙◌}
use mathlib.Core.Bool.{Bool, true, false, not, cond}
use mathlib.Core.List.{List, [], ◌∷◌, ◌++◌}
use Prim.Native.Nat.{ℕ, zero, suc, ◌+◌, ◌≤◌, ◌<◌}
use native.Mathlib.Nat.{add-zero, le_antisymm}
use native.Mathlib.Numerals.{add-one}
use native.Mathlib.Decide.{dec_lt}
use native.Mathlib.Omega.{arith}
use lib.Dec.{eqb}
use lib.ListN.{length, set, take, drop, length-append}
use lib.Seq.{sets, length-sets, sets-eq, take_at}
use Rattle.monotone.specs.Ordering.{picks, split_order}
use Rattle.monotone.proofs.Ordering.{picks_length}
use Rattle.model.specs.Lists.{tabulate}
use Rattle.model.specs.Run.{even_cell, order_of}
use Rattle.model.proofs.Lists.{tabulate_is}
use Rattle.order.specs.Order.{by_index, Appended}

-- storing one list after another is storing both joined
sets_append : (vs ws l : List ℕ) (s : ℕ) → sets (sets l s vs) (s + length vs) ws ≡ sets l s (vs ++ ws)
sets_append [] ws l s = rw add-zero
sets_append (v ∷ vs) ws l s =
    ap (λ (k : ℕ). sets (sets (set l s v) (suc s) vs) k ws) (omega arith) ∙ sets_append vs ws (set l s v) (suc s)

-- cells appended after cells
pub append_both : {vs ws before middle after : List ℕ} {s next last : ℕ}
    → Appended vs s before middle next → Appended ws next middle after last → Appended (vs ++ ws) s before after last
append_both {vs} {ws} {before} {s = s} a b =
    record {
      table = rw (b.table, a.table, a.free) (sets_append vs ws before s);
      free = simp length-append (omega arith);
    }

pub append_len : {vs before after : List ℕ} {s next : ℕ} → Appended vs s before after next → length after ≡ length before
append_len {vs} {before} {s = s} a = ap length a.table ∙ length-sets before s vs

pub append_none : (s : ℕ) (before : List ℕ) → Appended [] s before before s
append_none s before = record { table = refl; free = omega arith }

-- the numbers that pass a test, one number more
module _ (test : ℕ → Bool) where
  picks_by : (n : ℕ) (b : Bool) → test n ≡ b → picks test (n + 1) ≡ cond b (picks test n ++ n ∷ []) (picks test n)
  picks_by n b e = rw (add-one, e)

  picks_rise : (i n : ℕ) → i ≤ n → length (picks test i) ≤ length (picks test n)
  picks_rise i zero h = rw (le_antisymm h (omega arith)) (omega arith)
  picks_rise i (suc n) h =
      elim (dec_lt n i) [
        | yes a ↦ rw (le_antisymm h a) (omega arith)
        | no a ↦ omega (arith, picks_rise i n (omega arith), go (test n))
      ]
    where
      go : (b : Bool) → length (picks test n) ≤ length (cond b (picks test n ++ n ∷ []) (picks test n))
      go true = simp length-append (omega arith)
      go false = omega arith

  module _ (i : ℕ) {s next : ℕ} {before after : List ℕ} (a : Appended (picks test i) s before after next) where
    -- i passes: it is stored at the next free place, where there is room
    pub append_yes : test i ≡ true → Appended (picks test (i + 1)) s before (set after next i) (next + 1)
    append_yes e = rw (picks_by i true e) (append_both a (record { table = refl; free = refl }))

    pub append_no : test i ≡ false → Appended (picks test (i + 1)) s before after next
    append_no e = rw (picks_by i false e) a

    pub append_room : {n : ℕ} → test i ≡ true → i < n → s + length (picks test n) ≤ length before → next < length before
    append_room {n} e h l = omega (arith, simp (picks_by i true e, length-append) at (picks_rise (i + 1) n (omega arith)))

-- the whole of order 2: as many cells as there are places
pub append_all : (test : ℕ → Bool) (n : ℕ) {before middle after : List ℕ} {next last : ℕ} → n ≤ length before
    → Appended (picks test n) 0 before middle next → Appended (picks (λ i. not (test i)) n) next middle after last
    → take n after ≡ tabulate n (split_order test n)
append_all test n {before} {after = after} h a b =
    let all = picks test n ++ picks (λ i. not (test i)) n in
    let len : length all ≡ n = length-append (picks test n) (picks (λ i. not (test i)) n) ∙ picks_length test n in
    let whole : after ≡ all ++ drop (0 + length all) before = (append_both a b).table ∙ sets-eq all before 0 (omega arith) in
    ap (take n) whole ∙ take_at all (drop (0 + length all) before) n len ∙ tabulate_is n (split_order test n) 0 all len (λ i l. refl)

-- which of the functions serves which order
module _ (columns n : ℕ) where
  pub order_low : (order : ℕ) → order < 2 → tabulate n (by_index (eqb order 1) n) ≡ tabulate n (order_of columns n order)
  unfolding order_of
  order_low zero h = refl
  order_low (suc zero) h = refl
  order_low (suc (suc o)) h = absurd (omega arith)

  pub order_high : (order : ℕ) → 2 ≤ order → tabulate n (split_order (even_cell columns) n) ≡ tabulate n (order_of columns n order)
  unfolding order_of
  order_high zero h = absurd (omega arith)
  order_high (suc zero) h = absurd (omega arith)
  order_high (suc (suc o)) h = refl
