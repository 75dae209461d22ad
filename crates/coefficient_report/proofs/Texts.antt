-- The report of a file, from what the coefficient reader answered.
use mathlib.Core.Path.{◌≡◌, ap}
use mathlib.Core.List.{List}
use Prim.Native.Nat.{ℕ, ◌≤◌}
use lib.IntN.{ℤ}
use lib.ListN.{take}
use Rattle.model.specs.Film.{Film, film_of}
use Rattle.model.specs.File.{cells}
use Rattle.model.specs.Accepted.{Accepted}
use Rattle.model.specs.Result.{answered}
use Rattle.model.specs.CoefficientFile.{read_coefficients}
use Rattle.model.specs.CoefficientCalls.{LoadsCoefficients, used_film}
use Rattle.model.specs.Report.{film_report, report_by}
use Rattle.model.specs.declared.Head.{Head}
use Rattle.grid.proofs.Limited.{size_low}
use Rattle.model.proofs.CoefficientFile.{coefficients_accepted}
use Rattle.model.proofs.CoefficientInverse.{read_coefficients_lem}

-- It is of the film that was read, whose numbers the buffers hold.
pub record Read (bytes : List ℕ) (f : Film) : Type 0 where
  pub accepted : Accepted f
  pub text : report_by (read_coefficients bytes) ≡ film_report f

module _ (bytes : List ℕ) {w d r u w' d' r' u' : List ℕ} {s s' : List ℤ} {h : Head}
    (L : LoadsCoefficients bytes w d r u s (answered h) w' d' r' u' s') where
  read_used : Read bytes (used_film h w' d' r' u' s')
  read_used =
      let reads = read_coefficients_lem bytes w d r u s h L in
      record { accepted = coefficients_accepted bytes (used_film h w' d' r' u' s') reads; text = ap report_by reads }

  pub read_report : {n : ℕ} → n ≡ cells h.rows h.columns → Read bytes (film_of h (take n w') (take n d') (take n r') (take n u') (take n s'))
  read_report e = rw e read_used

  pub read_few : {n : ℕ} → n ≡ cells h.rows h.columns → n ≤ 1024
  read_few e = rw e (size_low read_used.accepted.limited.sized)
