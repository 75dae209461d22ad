-- A search for the peak that has come to cell i.
use mathlib.Core.Path.{◌≡◌, refl, sym, ap, ap₂, ◌∙◌, subst}
use mathlib.Core.Bool.{Bool, true, false, cond}
use mathlib.Core.List.{List}
use Prim.Native.Nat.{ℕ, ◌+◌, ◌/◌, ◌%◌, ◌≤◌, ◌<◌}
use native.Mathlib.Nat.{zero-mod, mod-lt, mod_self, mod-eq_of_lt, mod-add-mod, mul-le-mul}
use native.Mathlib.Numerals.{add-one}
use native.Mathlib.Omega.{arith}
use lib.ListN.{length, get_or}
use Rattle.model.specs.Film.{Film, weighted, size_of}
use Rattle.model.specs.Accepted.{Sized}
use Rattle.model.specs.Report.{outranks, higher, peak_of, peak_cell, peak_line}
use Rattle.model.proofs.Peak.{peak_is}
use Rattle.grid.proofs.Limited.{size_low}
use Rattle.report_lines.specs.Lines.{peak_text}

pub record Peaked (columns : ℕ) (p : List ℕ) (best edge column i : ℕ) : Type 0 where
  pub within : i ≤ length p
  pub is : best ≡ peak_of columns p i
  pub low : best ≤ i
  pub its_edge : edge ≡ best % columns
  pub counted : column ≡ i % columns

step : (columns : ℕ) (p : List ℕ) (i best : ℕ) → best ≡ peak_of columns p i → higher columns p best i ≡ peak_of columns p (i + 1)
unfolding peak_of
step columns p i best e = rw (add-one i) (ap (λ b. higher columns p b i) e)

-- the next cell's column: one further, or the first behind the last
module _ (columns i : ℕ) {column : ℕ} (e : column ≡ i % columns) where
  later : (column + 1) % columns ≡ (i + 1) % columns
  later = ap (λ (k : ℕ). (k + 1) % columns) e ∙ mod-add-mod i columns 1

  pub one_further : 1 ≤ columns → (column + 1 ≡ columns → ⊥) → column + 1 ≡ (i + 1) % columns
  one_further some h = let l : column + 1 < columns = omega (arith, mod-lt i some, h) in sym (mod-eq_of_lt l) ∙ later

  pub first_again : column + 1 ≡ columns → 0 ≡ (i + 1) % columns
  first_again h = sym (ap (λ (k : ℕ). k % columns) h ∙ mod_self columns) ∙ later

module _ {columns : ℕ} {p : List ℕ} where
  pub peak_none : Peaked columns p 0 0 0 0
  unfolding peak_of
  peak_none =
      record { within = omega arith; is = refl; low = omega arith; its_edge = sym (zero-mod columns); counted = sym (zero-mod columns) }

  module _ {best edge column i : ℕ} (h : i < length p) (P : Peaked columns p best edge column i) where
    -- of the two cells the one that the test with the counted columns gives
    by_test : (b : Bool) → outranks (get_or p best 0) edge (get_or p i 0) column ≡ b → cond b i best ≡ peak_of columns p (i + 1)
    by_test b t =
        let same : outranks (get_or p best 0) (best % columns) (get_or p i 0) (i % columns) ≡ b = rw (P.its_edge, P.counted) at t in
        sym (ap (λ (k : Bool). cond k i best) same) ∙ step columns p i best P.is

    pub peak_taken : {next : ℕ} → outranks (get_or p best 0) edge (get_or p i 0) column ≡ true → next ≡ (i + 1) % columns → Peaked columns p i column next (i + 1)
    peak_taken t n = record { within = omega arith; is = by_test true t; low = omega arith; its_edge = P.counted; counted = n }

    pub peak_kept : {next : ℕ} → outranks (get_or p best 0) edge (get_or p i 0) column ≡ false → next ≡ (i + 1) % columns → Peaked columns p best edge next (i + 1)
    peak_kept t n = record { within = omega arith; is = by_test false t; low = omega (arith, P.low); its_edge = P.its_edge; counted = n }

  pub peak_all : {best edge column i : ℕ} → Peaked columns p best edge column i → length p ≤ i → best ≡ peak_of columns p (length p)
  peak_all {i = i} P h = let e : i ≡ length p = omega (arith, P.within) in P.is ∙ ap (peak_of columns p) e

-- The peak of a film, where it was searched for by its columns: it is one of the cells, ..
pub record AtPeak (f : Film) (p : List ℕ) (columns top : ℕ) : Type 0 where
  pub is : top ≡ peak_cell f p
  pub inside : top < length p
  pub placed : (1 ≤ columns) × (top ≤ 1024)

pub at_peak : (f : Film) {columns top : ℕ} {w : List ℕ} (p : List ℕ) → Sized (weighted f w) → columns ≡ f.columns → length p ≡ size_of f
    → top ≡ peak_of columns p (length p) → AtPeak f p columns top
at_peak f {columns} {top} p s c n e =
    let is : top ≡ peak_cell f p = e ∙ ap₂ (λ (k m : ℕ). peak_of k p m) c n in
    let some : 0 < size_of f = omega (arith, mul-le-mul s.rows_some s.columns_some) in
    let inside : top < size_of f = subst (λ (k : ℕ). k < size_of f) (sym is) (peak_is f.columns p (size_of f) some).inside in
    record { is = is; inside = omega arith; placed = (omega (arith, s.columns_some), omega (arith, size_low s)) }

-- .. and its line, from the numbers on it
pub peak_line_lem : {f : Film} {p : List ℕ} {columns top row column pressure : ℕ} → AtPeak f p columns top → columns ≡ f.columns → row ≡ top / columns + 1
    → column ≡ top % columns + 1 → pressure ≡ get_or p top 0 → peak_text row column pressure ≡ peak_line f p
peak_line_lem a c r k v = rw (r, k, v, c, a.is)
