-- The call that forms coefficients, by what its tests find.
use mathlib.Core.Path.{◌≡◌, sym, ap, ◌∙◌}
use mathlib.Core.Bool.{Bool, ◌&&◌, and_assoc}
use mathlib.Core.List.{List}
use Prim.Native.Nat.{ℕ}
use native.Mathlib.Omega.{arith}
use borrow.Author.Tests.{eqb-true}
use lib.Dec.{eqb}
use lib.IntN.{ℤ}
use lib.ListN.{length, take}
use lib.Seq.{take_all}
use Rattle.model.specs.Gauge.{Gauge, factors_of, Stepped}
use Rattle.model.specs.Refusals.{Check, pass, fail}
use Rattle.model.specs.File.{cells, gauge_check}
use Rattle.model.specs.Result.{answered, refused}
use Rattle.model.specs.FileCalls.{gauge_fits, form_check, Forms}
use Rattle.model.proofs.Checks.{and_parts}
use Rattle.forming.specs.Cell.{Ringed, Room, Forming}
use Rattle.gauge.proofs.Tests.{measured_ringed, gauge_measured}

-- what is filled to its end
filled : {A : Type 0} (n : ℕ) (after : List A) {new : List A} → length after ≡ n → take n after ≡ new → after ≡ new
filled n after e t = sym (take_all n after (omega arith)) ∙ t

-- as many places as there were
pub record Unchanged (diagonals rights ups : List ℕ) (sources : List ℤ) (diagonals' rights' ups' : List ℕ) (sources' : List ℤ) : Type 0 where
  pub diagonals_kept : length diagonals' ≡ length diagonals
  pub rights_kept : length rights' ≡ length rights
  pub ups_kept : length ups' ≡ length ups
  pub sources_kept : length sources' ≡ length sources

module _ (g : Gauge) (diagonals rights ups : List ℕ) (sources : List ℤ) where
  -- each of the four slices has n places
  abbrev pub four_have : ℕ → Bool
  four_have n = eqb (length diagonals) n && eqb (length rights) n && eqb (length ups) n && eqb (length sources) n

  abbrev pub four_fit : Bool
  four_fit = four_have (cells g.rows g.columns)

  -- the tests, by the number of places that was asked for with the shape as the code has it
  pub form_tested : {f : Gauge} {n : ℕ} {r : Check} → f ≡ g → n ≡ cells f.rows f.columns → r ≡ gauge_check g (gauge_fits g && four_have n)
      → r ≡ form_check g diagonals rights ups sources
  form_tested v n e =
      e
      ∙ ap (λ (k : ℕ). gauge_check g (gauge_fits g && four_have k)) (n ∙ ap (λ (x : Gauge). cells x.rows x.columns) v)
      ∙ ap (gauge_check g) (simp and_assoc)

  record Lengths : Type 0 where
    diagonals_len : length diagonals ≡ cells g.rows g.columns
    rights_len : length rights ≡ cells g.rows g.columns
    ups_len : length ups ≡ cells g.rows g.columns
    sources_len : length sources ≡ cells g.rows g.columns

  module _ (e : form_check g diagonals rights ups sources ≡ pass) where
    tests : gauge_check g (gauge_fits g && four_fit) ≡ pass
    tests = ap (gauge_check g) (simp and_assoc) ∙ e

    lengths : Lengths
    lengths =
        let c = and_parts _ _ (gauge_measured g four_fit tests).1 in
        let b = and_parts _ _ c.0 in
        let a = and_parts _ _ b.0 in
        record {
          diagonals_len = eqb-true _ _ a.0;
          rights_len = eqb-true _ _ a.1;
          ups_len = eqb-true _ _ b.1;
          sources_len = eqb-true _ _ c.1;
        }

    -- what forming asks
    pub form_ready : (Ringed g × Stepped (factors_of g.steps)) × Room (cells g.rows g.columns) diagonals rights ups sources
    form_ready =
        let l = lengths in
        let m = gauge_measured g four_fit tests in (
          (measured_ringed m.0, m.2),
          record {
            diagonals_room = omega (arith, l.diagonals_len);
            rights_room = omega (arith, l.rights_len);
            ups_room = omega (arith, l.ups_len);
            sources_room = omega (arith, l.sources_len);
          },
        )

    -- all is written, ..
    pub form_written : {diagonals' rights' ups' : List ℕ} {sources' : List ℤ} → Forming g diagonals' rights' ups' sources'
        → Unchanged diagonals rights ups sources diagonals' rights' ups' sources'
        → Forms g diagonals rights ups sources (answered tt) diagonals' rights' ups' sources'
    form_written {diagonals'} {rights'} {ups'} {sources'} b k =
        let l = lengths in
        let n = cells g.rows g.columns in
        record {
          answer_is = rw e;
          diagonals_are = rw e (filled n diagonals' (k.diagonals_kept ∙ l.diagonals_len) b.diagonals_are);
          rights_are = rw e (filled n rights' (k.rights_kept ∙ l.rights_len) b.rights_are);
          ups_are = rw e (filled n ups' (k.ups_kept ∙ l.ups_len) b.ups_are);
          sources_are = rw e (filled n sources' (k.sources_kept ∙ l.sources_len) b.sources_are);
        }

  -- .. or nothing
  pub form_refused : {number place : ℕ} → form_check g diagonals rights ups sources ≡ fail number place
      → Forms g diagonals rights ups sources (refused number place) diagonals rights ups sources
  form_refused e = record { answer_is = rw e; diagonals_are = rw e; rights_are = rw e; ups_are = rw e; sources_are = rw e }
