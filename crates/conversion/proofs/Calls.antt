-- The converter by what its tests find.
use mathlib.Core.Path.{◌≡◌, ap, ◌∙◌}
use mathlib.Core.Bool.{◌&&◌}
use mathlib.Core.List.{List}
use Prim.Native.Nat.{ℕ}
use borrow.Author.Tests.{eqb-true}
use lib.Dec.{eqb}
use lib.ListN.{length}
use Rattle.model.specs.Refusals.{Check, pass, fail}
use Rattle.model.specs.Gauge.{Gauge, factors_of, Stepped}
use Rattle.model.specs.Coefficients.{formed}
use Rattle.model.specs.Checks.{shape_check}
use Rattle.model.specs.Result.{answered, refused, Gives}
use Rattle.model.specs.File.{cells, rows_offset, columns_offset, gauge_check}
use Rattle.model.specs.FileCalls.{gauge_fits}
use Rattle.model.specs.CoefficientFile.{coefficient_end, coefficient_file_of}
use Rattle.model.specs.CoefficientCalls.{convert_check, convert_call}
use Rattle.model.proofs.File.{gauge_shape}
use Rattle.model.proofs.Lists.{tabulate_length}
use Rattle.refusals.proofs.Chain.{or_else_given}
use Rattle.gauge.specs.Tests.{Measured}
use Rattle.gauge.proofs.Tests.{gauge_measured}
use Rattle.coefficient_writing.specs.Writable.{coefficient_length, Writable}
use Rattle.coefficient_writing.proofs.Film.{length_known}

module _ (g : Gauge) (out : List ℕ) where
  -- the tests, by the length that was asked for with the shape as the code has it: where the shape has passed, it is that of the film's file
  pub convert_tested : {f : Gauge} {n : ℕ} {r : Check} → f ≡ g → n ≡ coefficient_length f.rows f.columns
      → r ≡ gauge_check g (gauge_fits g && eqb (length out) n)
      → r ≡ convert_check g out
  unfolding gauge_check
  convert_tested v n e =
      e
      ∙ ap (λ (k : ℕ). gauge_check g (gauge_fits g && eqb (length out) k)) (n ∙ ap (λ (x : Gauge). coefficient_length x.rows x.columns) v)
      ∙ or_else_given (shape_check g.rows rows_offset g.columns columns_offset)
      (λ e. let s = gauge_shape g e in rw (length_known g.rows g.columns s.rows_low s.columns_low))

  -- what passes can be formed, and its file fills the slice
  pub convert_ready : convert_check g out ≡ pass → (Measured g × Stepped (factors_of g.steps)) × (length out ≡ coefficient_end (cells g.rows g.columns))
  convert_ready e =
      let m = gauge_measured g (eqb (length out) (coefficient_end (cells g.rows g.columns))) e in
      ((m.0, m.2), eqb-true _ _ m.1)

  pub formed_writable : Measured g → length out ≡ coefficient_end (cells g.rows g.columns) → Writable (formed g) out
  formed_writable m e =
      let s = gauge_shape g m.shape in
      record {
        rows_low = s.rows_low;
        columns_low = s.columns_low;
        weights_len = m.weights_len;
        numbers = record { diagonals_len = tabulate_length _ _; rights_len = tabulate_length _ _; ups_len = tabulate_length _ _; sources_len = tabulate_length _ _ };
        out_len = e;
      }

  -- all is written, or nothing
  pub convert_passed : {exit : List ℕ} → convert_check g out ≡ pass → exit ≡ coefficient_file_of (formed g) → Gives (convert_call g out) (answered tt) exit
  convert_passed e f = record { answer_is = rw e; lent_is = rw e f }

  pub convert_refused : {number place : ℕ} → convert_check g out ≡ fail number place → Gives (convert_call g out) (refused number place) out
  convert_refused e = record { answer_is = rw e; lent_is = rw e }
