-- The writer by what its tests find.
use mathlib.Core.Path.{◌≡◌, ap, ◌∙◌}
use mathlib.Core.Bool.{not, ◌&&◌}
use mathlib.Core.List.{List}
use Prim.Native.Nat.{ℕ}
use borrow.Author.Tests.{eqb-true, not-false}
use lib.Dec.{eqb}
use lib.ListN.{length}
use Rattle.model.specs.Refusals.{Check, pass, fail, fail_if}
use Rattle.model.specs.Gauge.{Gauge}
use Rattle.model.specs.Checks.{shape_check}
use Rattle.model.specs.Result.{answered, refused, Gives}
use Rattle.model.specs.File.{cells, rows_offset, columns_offset, gauged_end, file_of, gauge_check}
use Rattle.model.specs.FileCalls.{gauge_fits, save_check, save_call}
use Rattle.model.proofs.Checks.{and_parts, or_else_parts, fail_if_pass}
use Rattle.model.proofs.File.{gauge_shape}
use Rattle.refusals.proofs.Chain.{or_else_given}
use Rattle.writing.specs.Writable.{file_length, Writable}
use Rattle.writing.proofs.Film.{length_known, film_length}
use Rattle.gauge.proofs.Tests.{gauge_measured}

module _ (g : Gauge) (out : List ℕ) where
  -- where the shape has passed, the length that was asked for is that of the film's file
  save_fits : gauge_check g (gauge_fits g && eqb (length out) (file_length g.rows g.columns g.steps)) ≡ save_check g out
  unfolding gauge_check
  save_fits =
      or_else_given (shape_check g.rows rows_offset g.columns columns_offset)
      (λ e. let s = gauge_shape g e in rw (length_known g s.rows_low s.columns_low))

  pub save_tested : {n : ℕ} {c : Check} → n ≡ file_length g.rows g.columns g.steps → c ≡ gauge_check g (gauge_fits g && eqb (length out) n) → c ≡ save_check g out
  save_tested e f = f ∙ ap (λ (k : ℕ). gauge_check g (gauge_fits g && eqb (length out) k)) e ∙ save_fits

  pub save_ready : save_check g out ≡ pass → Writable g out
  unfolding gauge_check
  save_ready e =
      let a = or_else_parts (shape_check g.rows rows_offset g.columns columns_offset) _ e in
      let s = gauge_shape g a.0 in
      let end = eqb (length out) (gauged_end g) in
      let b = or_else_parts (fail_if (not (gauge_fits g && end)) 10 0) _ a.1 in
      let c = and_parts (gauge_fits g) end (not-false _ (fail_if_pass _ 10 0 b.0)) in
      let d = and_parts (eqb (length g.weights) (cells g.rows g.columns)) _ c.0 in
      let m = gauge_measured g end e in
      record {
        rows_low = s.rows_low;
        columns_low = s.columns_low;
        weights_len = eqb-true _ _ d.0;
        thicknesses_len = eqb-true _ _ d.1;
        steps_low = m.2;
        out_len = eqb-true _ _ c.1 ∙ film_length g;
      }

  pub save_passed : {exit : List ℕ} → save_check g out ≡ pass → exit ≡ file_of g → Gives (save_call g out) (answered tt) exit
  save_passed e f = record { answer_is = rw e; lent_is = rw e f }

  pub save_refused : {number place : ℕ} → save_check g out ≡ fail number place → Gives (save_call g out) (refused number place) out
  save_refused e = record { answer_is = rw e; lent_is = rw e }
