-- The writer by what its tests find.
use mathlib.Core.Path.{◌≡◌, ap, ◌∙◌}
use mathlib.Core.Bool.{not, ◌&&◌}
use mathlib.Core.List.{List}
use Prim.Native.Nat.{ℕ}
use borrow.Author.Tests.{eqb-true, not-false}
use lib.Dec.{eqb}
use lib.ListN.{length}
use Rattle.model.specs.Refusals.{Check, pass, fail, fail_if}
use Rattle.model.specs.Film.{Film, size_of}
use Rattle.model.specs.Checks.{shape_check, film_fits}
use Rattle.model.specs.Result.{answered, refused, Gives}
use Rattle.model.specs.File.{rows_offset, columns_offset}
use Rattle.model.specs.CoefficientFile.{coefficient_end, coefficient_file_of, writer_check}
use Rattle.model.specs.CoefficientCalls.{coefficient_save_check, coefficient_save_call}
use Rattle.model.proofs.Checks.{and_parts, or_else_parts, fail_if_pass, fits_lengths}
use Rattle.model.proofs.Opening.{shape_passes}
use Rattle.refusals.proofs.Chain.{or_else_given}
use Rattle.coefficient_writing.specs.Writable.{coefficient_length, Writable}
use Rattle.coefficient_writing.proofs.Film.{length_known}

module _ (f : Film) (out : List ℕ) where
  -- where the shape has passed, the length that was asked for is that of the film's file
  save_fits : writer_check f (film_fits f && eqb (length out) (coefficient_length f.rows f.columns)) ≡ coefficient_save_check f out
  unfolding writer_check
  save_fits =
      or_else_given (shape_check f.rows rows_offset f.columns columns_offset)
      (λ e.
      let s = shape_passes f.rows f.columns rows_offset columns_offset e in
      rw (length_known f.rows f.columns s.rows_low s.columns_low))

  pub save_tested : {n : ℕ} {c : Check} → n ≡ coefficient_length f.rows f.columns → c ≡ writer_check f (film_fits f && eqb (length out) n) → c ≡ coefficient_save_check f out
  save_tested e w = w ∙ ap (λ (k : ℕ). writer_check f (film_fits f && eqb (length out) k)) e ∙ save_fits

  pub save_ready : coefficient_save_check f out ≡ pass → Writable f out
  unfolding writer_check
  save_ready e =
      let a = or_else_parts (shape_check f.rows rows_offset f.columns columns_offset) _ e in
      let s = shape_passes f.rows f.columns rows_offset columns_offset a.0 in
      let end = eqb (length out) (coefficient_end (size_of f)) in
      let b = or_else_parts (fail_if (not (film_fits f && end)) 10 0) _ a.1 in
      let c = and_parts (film_fits f) end (not-false _ (fail_if_pass _ 10 0 b.0)) in
      let l = fits_lengths f c.0 in
      record {
        rows_low = s.rows_low;
        columns_low = s.columns_low;
        weights_len = l.0;
        numbers = record { diagonals_len = l.1; rights_len = l.2; ups_len = l.3; sources_len = l.4 };
        out_len = eqb-true _ _ c.1;
      }

  pub save_passed : {exit : List ℕ} → coefficient_save_check f out ≡ pass → exit ≡ coefficient_file_of f → Gives (coefficient_save_call f out) (answered tt) exit
  save_passed e h = record { answer_is = rw e; lent_is = rw e h }

  pub save_refused : {number place : ℕ} → coefficient_save_check f out ≡ fail number place → Gives (coefficient_save_call f out) (refused number place) out
  save_refused e = record { answer_is = rw e; lent_is = rw e }
