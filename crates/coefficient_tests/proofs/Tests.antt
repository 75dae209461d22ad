-- What the tests find, of a film that the code has under another name.
use mathlib.Core.Path.{◌≡◌}
use mathlib.Core.Bool.{Bool, not, ◌&&◌}
use Prim.Native.Nat.{◌+◌, ◌*◌}
use borrow.Author.Tests.{not-false}
use lib.Dec.{eqb}
use lib.ListN.{length, get_or}
use Rattle.model.specs.Refusals.{Check, pass, fail_if, fail_first}
use Rattle.model.specs.Film.{Film, size_of}
use Rattle.model.specs.Accepted.{Sized}
use Rattle.model.specs.Checks.{shape_check, ceiling_check, film_fits}
use Rattle.model.specs.File.{rows_offset, columns_offset, ceiling_offset, weights_check}
use Rattle.model.proofs.Checks.{and_parts, fail_if_pass}
use Rattle.model.proofs.CoefficientFile.{passed_sized}

module _ {f g : Film} (same : g ≡ f) {r : Check} where
  pub shape_is : r ≡ shape_check g.rows rows_offset g.columns columns_offset → r ≡ shape_check f.rows rows_offset f.columns columns_offset
  shape_is h = rw same at h

  pub ceiling_is : r ≡ ceiling_check g.ceiling ceiling_offset → r ≡ ceiling_check f.ceiling ceiling_offset
  ceiling_is h = rw same at h

  pub weights_are : Sized f → r ≡ fail_first (λ i. eqb (get_or g.weights i 0) 0) (length g.weights) 6 (λ i. 15 + 2 * i) → r ≡ weights_check f.weights (size_of f)
  weights_are s h = rw (same, s.weights_len) at h

pub lengths_are : (f : Film) (fits : Bool) {fit : Bool} {r : Check} → fit ≡ film_fits f → r ≡ fail_if (not (fit && fits)) 10 0
    → r ≡ fail_if (not (film_fits f && fits)) 10 0
lengths_are f fits e h = rw e at h

-- where shape, lengths and ceiling have passed, the film is sized
pub head_sized : (f : Film) (fits : Bool) → shape_check f.rows rows_offset f.columns columns_offset ≡ pass → fail_if (not (film_fits f && fits)) 10 0 ≡ pass
    → ceiling_check f.ceiling ceiling_offset ≡ pass → Sized f
head_sized f fits shape lengths ceiling =
    passed_sized f (and_parts (film_fits f) fits (not-false _ (fail_if_pass _ 10 0 lengths))).0 shape ceiling
