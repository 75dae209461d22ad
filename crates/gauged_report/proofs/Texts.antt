-- The report of a file, from what the reader of gauged films answered.
use mathlib.Core.Path.{◌≡◌, ap}
use mathlib.Core.Bool.{true}
use mathlib.Core.List.{List}
use Prim.Native.Nat.{ℕ, ◌≤◌, ◌<◌}
use lib.IntN.{ℤ}
use lib.ListN.{take}
use Rattle.model.specs.Bytes.{byte_at}
use Rattle.model.specs.Refusals.{pass}
use Rattle.model.specs.Coefficients.{formed}
use Rattle.model.specs.Result.{answered}
use Rattle.model.specs.Gauge.{Gauge}
use Rattle.model.specs.File.{cells, ringed, read_film, gauge_check, Bytes, Values}
use Rattle.model.specs.FileCalls.{gauge_of, loaded_of, Loads, used}
use Rattle.model.specs.EitherFile.{formed_by}
use Rattle.model.specs.Report.{film_report, report_by}
use Rattle.model.specs.declared.Numbers.{Numbers}
use Rattle.model.proofs.File.{gauge_passes, gauge_shape, read_values}
use Rattle.forming.proofs.Cell.{ring_low}
use Rattle.gauged_report.proofs.Forms.{few}
use Rattle.model.proofs.Inverse.{read_film_lem}

-- What the reader answered, and so the report: of the film that it has read, whose numbers the buffers hold.
pub record Read (bytes : List ℕ) (g : Gauge) : Type 0 where
  pub values : Values g
  pub passes : gauge_check g true ≡ pass
  pub text : report_by (formed_by (read_film bytes)) ≡ film_report (formed g)

module _ {bytes w t w' t' : List ℕ} {numbers : Numbers} (byte : (i : ℕ) → byte_at bytes i < 256)
    (L : Loads bytes w t (answered (loaded_of numbers)) w' t') where
  read_used : Read bytes (used numbers.head numbers.wedge numbers.steps w' t')
  read_used =
      let B : Bytes bytes = record { byte = byte } in
      let reads = read_film_lem bytes w t w' t' numbers.head numbers.wedge numbers.steps B L in
      let v = read_values bytes (used numbers.head numbers.wedge numbers.steps w' t') B reads in
      record { values = v.0; passes = v.1; text = ap (λ r. report_by (formed_by r)) reads }

  pub read_report : {wedge : ℤ} {n m : ℕ} → n ≡ cells numbers.head.rows numbers.head.columns → m ≡ ringed numbers.head.rows numbers.head.columns
      → wedge ≡ numbers.wedge → Read bytes (gauge_of numbers.head (take n w') (take m t') wedge numbers.steps)
  read_report a r z = rw (a, r, z) read_used

  pub read_room : (cells numbers.head.rows numbers.head.columns ≤ 1024) × (ringed numbers.head.rows numbers.head.columns ≤ 1156)
  read_room =
      let g : Gauge = used numbers.head numbers.wedge numbers.steps w' t' in
      let shape = gauge_shape g (gauge_passes g read_used.passes).numbers.shape in
      (few read_used.values read_used.passes, ring_low _ _ shape.rows_low shape.columns_low)
