-- The peak of a field: the greatest pressure, of equals the greatest column, of those the lowest row.
use mathlib.Core.Path.{◌≡◌, refl, sym, ap, ◌∙◌}
use mathlib.Core.Logic.{◌⊎◌, inl, inr, ⊎_elim}
use mathlib.Core.Bool.{Bool, true, false, cond, false≢true, true≢false, ◌&&◌, ◌||◌}
use mathlib.Core.List.{List}
use Prim.Native.Nat.{ℕ, zero, suc, ◌+◌, ◌-◌, ◌*◌, ◌/◌, ◌%◌, ◌≤◌, ◌<◌}
use native.Mathlib.Nat.{le_refl, le_antisymm, le_of_eq, le_trans, zero-lt-suc, mul-pos, mul-le-mul, mod-lt, mod-eq_of_lt, div-zero, div-eq_of_lt, div-add-mod, div-mul-le_self, le-div_iff_mul-le}
use native.Mathlib.Decide.{dec_lt}
use native.Mathlib.Omega.{arith}
use borrow.Author.Tests.{ltb-true, ltb-false, eqb-true, eqb-false}
use lib.ListN.{get_or}
use Rattle.model.specs.Film.{Film, size_of, row_of, column_of}
use Rattle.model.specs.Report.{decimal, ◌␣◌, line, peak_word, outranks, higher, peak_of, Peak, peak_cell, peak_line}

-- what the test says where it is met, and where it is not
or_true : (a b c : Bool) → (a || (b && c)) ≡ true → (a ≡ true) ⊎ ((b ≡ true) × (c ≡ true))
or_true true b c h = inl refl
or_true false true c h = inr (refl, h)
or_true false false c h = absurd (false≢true h)

or-false : (a b c : Bool) → (a || (b && c)) ≡ false → (a ≡ false) × ((b ≡ false) ⊎ (c ≡ false))
or-false true b c h = absurd (true≢false h)
or-false false true c h = (refl, inr h)
or-false false false c h = (refl, inl refl)

module _ (top edge pressure column : ℕ) where
  outranks_true : outranks top edge pressure column ≡ true → (top ≤ pressure) × (pressure ≤ top → edge < column)
  outranks_true h =
      ⊎_elim
      (λ a. let g : top < pressure = ltb-true _ _ a in (omega arith, λ l. absurd (omega arith)))
      (λ b. let e : top ≡ pressure = eqb-true _ _ b.0 in (omega arith, λ l. ltb-true _ _ b.1))
      (or_true _ _ _ h)

  outranks_false : outranks top edge pressure column ≡ false → (pressure ≤ top) × (top ≤ pressure → column ≤ edge)
  outranks_false h =
      let o = or-false _ _ _ h in
      let g : pressure ≤ top = ltb-false _ _ o.0 in
      (g, λ l. ⊎_elim (λ b. absurd (eqb-false _ _ b (le_antisymm l g))) (λ c. ltb-false _ _ c) o.1)

-- a later cell is in no lower row
row_later : (columns : ℕ) {i j : ℕ} → i ≤ j → i / columns ≤ j / columns
row_later zero {i} {j} h = omega (arith, div-zero i)
row_later (suc c) {i} {j} h = (le-div_iff_mul-le (zero-lt-suc c)).1 (le_trans (div-mul-le_self i (suc c)) h)

module _ (columns : ℕ) (p : List ℕ) where
  -- one cell more
  peak_step : (n best : ℕ) → Peak columns p n best → Peak columns p (suc n) (higher columns p best n)
  peak_step n best P = go (outranks (get_or p best 0) (best % columns) (get_or p n 0) (n % columns)) refl
    where
      go : (b : Bool) → outranks (get_or p best 0) (best % columns) (get_or p n 0) (n % columns) ≡ b → Peak columns p (suc n) (cond b n best)
      go true e =
          let t = outranks_true (get_or p best 0) (best % columns) (get_or p n 0) (n % columns) e in
          -- a cell before it with its pressure stands in a column before its own
          let nearer : (i : ℕ) → i < n → get_or p i 0 ≡ get_or p n 0 → i % columns < n % columns =
          λ i a s. omega (arith, P.trailing i a (omega (arith, P.greatest i a, t.0)), t.1 (omega (arith, P.greatest i a))) in
          record {
            inside = omega arith;
            greatest = λ i l. elim (dec_lt i n) [
              | yes a ↦ omega (arith, P.greatest i a, t.0)
              | no a ↦ let z : i ≡ n = omega arith in rw z (le_refl (get_or p n 0))
            ];
            trailing = λ i l s. elim (dec_lt i n) [ yes a ↦ omega (arith, nearer i a s) | no a ↦ let z : i ≡ n = omega arith in rw z (le_refl (n % columns)) ];
            lowest = λ i l s c. elim (dec_lt i n) [ yes a ↦ absurd (omega (arith, nearer i a s)) | no a ↦ row_later columns (omega arith) ];
          }
      go false e =
          let k = outranks_false (get_or p best 0) (best % columns) (get_or p n 0) (n % columns) e in
          record {
            inside = omega (arith, P.inside);
            greatest = λ i l. elim (dec_lt i n) [ yes a ↦ P.greatest i a | no a ↦ let z : i ≡ n = omega arith in rw z k.0 ];
            trailing = λ i l s. elim (dec_lt i n) [
              | yes a ↦ P.trailing i a s
              | no a ↦ let z : i ≡ n = omega arith in rw z (k.1 (le_of_eq (sym s ∙ ap (λ (j : ℕ). get_or p j 0) z)))
            ];
            lowest = λ i l s c. elim (dec_lt i n) [ yes a ↦ P.lowest i a s c | no a ↦ row_later columns (omega (arith, P.inside)) ];
          }

  -- of one cell
  peak_first : Peak columns p 1 0
  peak_first =
      record {
        inside = omega arith;
        greatest = λ i h. let z : i ≡ 0 = omega arith in rw z (le_refl (get_or p 0 0));
        trailing = λ i h s. let z : i ≡ 0 = omega arith in rw z (le_refl (0 % columns));
        lowest = λ i h s c. row_later columns (omega arith);
      }

  pub peak_is : (n : ℕ) → 0 < n → Peak columns p n (peak_of columns p n)
  unfolding peak_of
  peak_is zero h = absurd (omega arith)
  peak_is (suc zero) h = go (outranks (get_or p 0 0) (0 % columns) (get_or p 0 0) (0 % columns))
    where
      go : (b : Bool) → Peak columns p 1 (cond b 0 0)
      go true = peak_first
      go false = peak_first
  peak_is (suc (suc n)) h = peak_step (suc n) (peak_of columns p (suc n)) (peak_is (suc n) (zero-lt-suc n))

  -- and of no other cell
  pub peak_one : (n : ℕ) {a b : ℕ} → Peak columns p n a → Peak columns p n b → a ≡ b
  peak_one n {a} {b} A B =
      let v : get_or p a 0 ≡ get_or p b 0 = omega (arith, A.greatest b B.inside, B.greatest a A.inside) in
      let c : a % columns ≡ b % columns = omega (arith, A.trailing b B.inside (sym v), B.trailing a A.inside v) in
      let r : a / columns ≡ b / columns = omega (arith, A.lowest b B.inside (sym v) (sym c), B.lowest a A.inside v c) in
      omega (arith, div-add-mod a columns, div-add-mod b columns, ap (λ (k : ℕ). columns * k) r)

-- a film at zero pressure prints its last column in row 1
pub peak_at_zero : (f : Film) (p : List ℕ) → 0 < f.rows → 0 < f.columns → ((i : ℕ) → i < size_of f → get_or p i 0 ≡ 0)
    → peak_line f p ≡ line (peak_word ␣ (decimal 1 ␣ decimal f.columns) ␣ decimal 0)
peak_at_zero f p r c zeros =
    let top = peak_cell f p in
    let P = peak_is f.columns p (size_of f) (mul-pos r c) in
    let last = f.columns - 1 in
    let b : last < size_of f = omega (arith, mul-le-mul {m₁ = f.columns} {m₂ = f.columns} r (le_refl f.columns)) in
    let rest : get_or p top 0 ≡ 0 = zeros top P.inside in
    let level : get_or p last 0 ≡ get_or p top 0 = zeros last b ∙ sym rest in
    let its : column_of f last ≡ last = mod-eq_of_lt (omega arith) in
    let column : column_of f top + 1 ≡ f.columns = omega (arith, P.trailing last b level, mod-lt top c) in
    let first : row_of f last ≡ 0 = div-eq_of_lt (omega arith) in
    let row : row_of f top + 1 ≡ 1 = omega (arith, P.lowest last b level (omega arith)) in
    rw (row, column, rest)
