-- The pull by index is document 01's sum over the neighbours inside the grid, where the links that leave the grid are 0.
use mathlib.Core.Path.{◌≡◌, refl, sym, ap, ◌∙◌}
use mathlib.Core.Bool.{Bool, true, false, cond}
use mathlib.Core.List.{List}
use Prim.Native.Nat.{ℕ, zero, suc, ◌+◌, ◌-◌, ◌*◌, ◌/◌, ◌%◌, ◌≤◌, ◌<◌}
use native.Mathlib.Nat.{div-add-mod, mod-le, mod-eq_of_lt, mul-suc, mul-zero, zero-mul, mul-add-mod_self_left, div-eq_of_lt, le-div_iff_mul-le, add-zero}
use native.Mathlib.Decide.{dec_lt}
use native.Mathlib.Omega.{arith}
use borrow.Author.Tests.{lt-ltb, le-ltb}
use lib.Dec.{ltb}
use lib.ListN.{get_or}
use Rattle.monotone.specs.Links.{pull}
use Rattle.model.specs.Film.{Film, size_of, row_of, column_of, right_at, up_at, link_if, beside, across, neighbours, pull_of}
use Rattle.model.proofs.Sides.{pull_append}
use Rattle.grid.specs.Pull.{back_of, ahead_of, pull_by, Edges}
use Rattle.grid.proofs.Pull.{back_none, back_some}

pull_if : (b : Bool) (cell link : ℕ) (x : ℕ → ℕ) → pull (link_if b cell link) x ≡ cond b (link * x cell) 0
pull_if true cell link x = add-zero (link * x cell)
pull_if false cell link x = refl

-- a term that counts where a < b
cond_yes : (a b x : ℕ) → a < b → cond (ltb a b) x 0 ≡ x
cond_yes a b x h = rw (lt-ltb a b h)

cond_no : (a b x : ℕ) → b ≤ a → cond (ltb a b) x 0 ≡ 0
cond_no a b x h = rw (le-ltb a b h)

-- the cell before the first of a row is the last of the row before
last_column : (k c : ℕ) → 0 < k → k % c ≡ 0 → c ≤ (k - 1) % c + 1
last_column k c p z = go (k / c) refl
  where
    go : (q : ℕ) → k / c ≡ q → c ≤ (k - 1) % c + 1
    go zero e = absurd (omega (arith, div-add-mod k c, ap (λ (m : ℕ). c * m) e, mul-zero c))
    go (suc q) e =
        let d : c * (k / c) ≡ c * q + c = ap (λ (m : ℕ). c * m) e ∙ mul-suc c q in
        elim (dec_lt 0 c) [
          | yes h ↦
              let s : k - 1 ≡ c * q + (c - 1) = omega (arith, div-add-mod k c) in
              let r : (k - 1) % c ≡ c - 1 = ap (λ (m : ℕ). m % c) s ∙ mul-add-mod_self_left c q (c - 1) ∙ mod-eq_of_lt (omega arith) in
              omega arith
          | no h ↦ omega arith
        ]

module _ (f : Film) (x : List ℕ) (e : Edges f) (k : ℕ) (b : k < size_of f) where
  left : back_of f.rights x k 1 ≡ cond (ltb 0 (column_of f k)) (right_at f (k - 1) * get_or x (k - 1) 0) 0
  left =
      elim (dec_lt 0 (column_of f k)) [
        | yes h ↦ back_some f.rights x k 1 (omega (arith, mod-le k f.columns)) ∙ sym (cond_yes _ _ _ h)
        | no h ↦ let first : column_of f k ≤ 0 = omega arith in elim (dec_lt 0 k) [
          | yes p ↦
              let z : right_at f (k - 1) ≡ 0 = e.right (k - 1) (omega arith) (last_column k f.columns p (omega arith)) in
              back_some f.rights x k 1 p ∙ ap (λ (m : ℕ). m * get_or x (k - 1) 0) z ∙ zero-mul (get_or x (k - 1) 0) ∙ sym (cond_no _ _ _ first)
          | no p ↦ back_none f.rights x k 1 (omega arith) ∙ sym (cond_no _ _ _ first)
        ]
      ]

  -- a link ahead counts only where it does not leave the grid
  ahead : (links : List ℕ) (step a c : ℕ) → (c ≤ a → get_or links k 0 ≡ 0)
      → ahead_of links x k step ≡ cond (ltb a c) (get_or links k 0 * get_or x (k + step) 0) 0
  unfolding ahead_of
  ahead links step a c z =
      elim (dec_lt a c) [
        | yes h ↦ sym (cond_yes _ _ _ h)
        | no h ↦ let l : c ≤ a = omega arith in ap (λ (m : ℕ). m * get_or x (k + step) 0) (z l) ∙ zero-mul (get_or x (k + step) 0) ∙ sym (cond_no _ _ _ l)
      ]

  down : back_of f.ups x k f.columns ≡ cond (ltb 0 (row_of f k)) (up_at f (k - f.columns) * get_or x (k - f.columns) 0) 0
  down =
      elim (dec_lt k f.columns) [
        | yes h ↦ let z : row_of f k ≡ 0 = div-eq_of_lt h in let l : row_of f k ≤ 0 = omega arith in back_none f.ups x k f.columns h ∙ sym (cond_no _ _ _ l)
        | no h ↦
            let l : 1 ≤ row_of f k = (le-div_iff_mul-le e.some).1 (omega arith) in
            back_some f.ups x k f.columns (omega arith) ∙ sym (cond_yes _ _ _ l)
      ]

  beside_is : back_of f.rights x k 1 + ahead_of f.rights x k 1 ≡ pull (beside f k) (λ j. get_or x j 0)
  unfolding beside
  beside_is =
      let at : ℕ → ℕ = λ j. get_or x j 0 in
      omega (
        arith,
        left,
        ahead f.rights 1 (column_of f k + 1) f.columns (e.right k b),
        pull_append (link_if (ltb 0 (column_of f k)) (k - 1) (right_at f (k - 1))) (link_if (ltb (column_of f k + 1) f.columns) (k + 1) (right_at f k)) at,
        pull_if (ltb 0 (column_of f k)) (k - 1) (right_at f (k - 1)) at,
        pull_if (ltb (column_of f k + 1) f.columns) (k + 1) (right_at f k) at,
      )

  -- the part of it that comes from the rows before and after
  pub across_is : back_of f.ups x k f.columns + ahead_of f.ups x k f.columns ≡ pull (across f k) (λ j. get_or x j 0)
  unfolding across
  across_is =
      let at : ℕ → ℕ = λ j. get_or x j 0 in
      omega (
        arith,
        down,
        ahead f.ups f.columns (row_of f k + 1) f.rows (e.up k b),
        pull_append (link_if (ltb 0 (row_of f k)) (k - f.columns) (up_at f (k - f.columns))) (link_if (ltb (row_of f k + 1) f.rows) (k + f.columns) (up_at f k)) at,
        pull_if (ltb 0 (row_of f k)) (k - f.columns) (up_at f (k - f.columns)) at,
        pull_if (ltb (row_of f k + 1) f.rows) (k + f.columns) (up_at f k) at,
      )

  pub pull_is : pull_by f.columns f.rights f.ups x k ≡ pull_of f x k
  unfolding pull_by neighbours
  pull_is = omega (arith, beside_is, across_is, pull_append (beside f k) (across f k) (λ j. get_or x j 0))
