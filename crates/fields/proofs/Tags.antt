-- What a tag says of its field, and what follows from the tag that stands in a file.
use mathlib.Core.Path.{◌≡◌, sym, ap, subst, ◌∙◌}
use mathlib.Core.Bool.{Bool, true, false, cond, not}
use mathlib.Core.List.{List}
use Rattle.std.specs.Prelude.{Result, Ok, Err}
use Prim.Native.Nat.{ℕ, zero, suc, ◌+◌, ◌-◌, ◌*◌, ◌≤◌, ◌<◌}
use native.Mathlib.Omega.{arith}
use borrow.Author.Tests.{eqb-true, ne_eqb, not-false}
use lib.Dec.{ltb, eqb}
use lib.ListN.{length}
use Rattle.model.specs.Refusals.{Check, pass, check_of, ◌or_else◌, fail_if}
use Rattle.model.specs.Bytes.{byte_at, word_at}
use Rattle.model.specs.Fields.{Field, body, behind, field_at}
use Rattle.model.specs.File.{shape_field, ceiling_field, weights_field, thicknesses_field, wedge_field, steps_field, carried}
use Rattle.model.specs.CoefficientFile.{diagonals_field, rights_field, ups_field, sources_field}
use Rattle.model.specs.declared.Refusal.{Refusal}
use Rattle.model.proofs.Checks.{or_else_parts, fail_if_pass}
use Rattle.model.proofs.Fields.{header}
use Rattle.model.proofs.Opening.{carried_low}
use Rattle.refusals.proofs.Chain.{or_else_given, passed, goes_on, refuses}
use Rattle.fields.specs.Tags.{plain_field, unknown, field_for, Tries}

either_low : (b : Bool) (x y : Field) {k : ℕ} → x.size ≤ k → y.size ≤ k → (cond b x y).size ≤ k
either_low true x y h l = h
either_low false x y h l = l

pub size_low : (bytes : List ℕ) (tag n t : ℕ) → n ≤ 65025 → t ≤ 66049 → (field_for bytes tag n t).size ≤ 520200
size_low bytes tag n t h l =
    either_low (eqb tag 1) shape_field _ (omega arith) (either_low (eqb tag 2) ceiling_field _ (omega arith)
    (either_low (eqb tag 3) (weights_field (carried bytes n)) _ (omega (arith, carried_low bytes n)) (either_low (eqb tag 4) (thicknesses_field t) _ (omega arith)
    (either_low (eqb tag 5) wedge_field _ (omega arith) (either_low (eqb tag 6) (diagonals_field n) _ (omega arith)
    (either_low (eqb tag 7) (rights_field n) _ (omega arith) (either_low (eqb tag 8) (ups_field n) _ (omega arith)
    (either_low (eqb tag 9) (sources_field n) _ (omega arith) (either_low (eqb tag 10) steps_field _ (omega arith) (omega arith))))))))))

-- A field from the test h of its header: where that passes, the whole body is there, the values are tested and the next field stands behind this
-- one; where either refuses, nothing else counts.
module _ (f : Field) (l : List ℕ) (at tag : ℕ) {size : ℕ} {h : Result (Unit {0}) Refusal} (size_is : f.size ≡ size) (found : check_of h ≡ field_at l at tag size) where
  pub body_there : h ≡ Ok tt → behind at f.size ≤ length l
  body_there e = (header l at tag f.size (passed (found ∙ ap (field_at l at tag) (sym size_is)) e)).fits

  pub field_refused : {r : Refusal} → h ≡ Err r → Tries f tag l at (Err r)
  field_refused e = record { finds = refuses (found ∙ ap (field_at l at tag) (sym size_is)) _ e; goes_on = λ next q. cc }

  module _ {v : Result (Unit {0}) Refusal} (e : h ≡ Ok tt) (values : check_of v ≡ f.check l (body at)) where
    pub values_refused : {r : Refusal} → v ≡ Err r → Tries f tag l at (Err r)
    values_refused x = record { finds = sym (ap check_of x) ∙ goes_on (found ∙ ap (field_at l at tag) (sym size_is)) e values; goes_on = λ next q. cc }

    pub field_tried : v ≡ Ok tt → Tries f tag l at (Ok (behind at size))
    field_tried x =
        record {
          finds = sym (ap check_of x) ∙ goes_on (found ∙ ap (field_at l at tag) (sym size_is)) e values;
          goes_on = λ next q. let same : behind at size ≡ next = cc in sym same ∙ ap (behind at) (sym size_is);
        }

-- The test of a field depends on its length and on the test of its values alone. So that of a plain field is that of every field with its
-- length whose values are not tested: those of tags 6, 7 and 8, and what stands for any tag above 10.
module _ (n t : ℕ) {l : List ℕ} {at tag : ℕ} {r : Result ℕ Refusal} where
  long_tried : (j : ℕ) → j < 3 → Tries (plain_field (4 * n)) tag l at r → Tries (field_for l (6 + j) n t) tag l at r
  long_tried zero h T = record { finds = T.finds; goes_on = T.goes_on }
  long_tried (suc zero) h T = record { finds = T.finds; goes_on = T.goes_on }
  long_tried (suc (suc zero)) h T = record { finds = T.finds; goes_on = T.goes_on }
  long_tried (suc (suc (suc j))) h T = absurd (omega arith)

  pub longs_tried : (k : ℕ) → 6 ≤ k → k < 9 → Tries (plain_field (4 * n)) tag l at r → Tries (field_for l k n t) tag l at r
  longs_tried k h b T =
      let same : 6 + (k - 6) ≡ k = omega arith in
      subst (λ (m : ℕ). Tries (field_for l m n t) tag l at r) same (long_tried (k - 6) (omega arith) T)

  pub unknown_tried : (k : ℕ) → 10 < k → Tries unknown tag l at r → Tries (field_for l k n t) tag l at r
  unknown_tried k h T =
      rw (
        other 1 (omega arith),
        other 2 (omega arith),
        other 3 (omega arith),
        other 4 (omega arith),
        other 5 (omega arith),
        other 6 (omega arith),
        other 7 (omega arith),
        other 8 (omega arith),
        other 9 (omega arith),
        other 10 (omega arith),
      ) T
    where
      other : (j : ℕ) → j ≤ 10 → eqb k j ≡ false
      other j b = ne_eqb k j (λ e. omega (arith, e))

-- What is tested may be the field of the byte that stands there: where that is not the tag that should, it is refused before its length or
-- its values count.
module _ (l : List ℕ) (at tag n t : ℕ) where
  abbrev named : ℕ → Field
  named k = field_for l k n t

  abbrev headed : ℕ → Check
  headed k = field_at l at tag (named k).size

  length_found : headed (byte_at l at) ≡ headed tag
  unfolding field_at
  length_found =
      or_else_given (fail_if (ltb (length l) (body at)) 1 (length l))
      (λ _. or_else_given (fail_if (not (eqb (byte_at l at) tag)) 2 at)
      (λ e.
      let same : byte_at l at ≡ tag = eqb-true _ _ (not-false _ (fail_if_pass _ 2 at e)) in
      ap (λ k. fail_if (not (eqb (word_at l (at + 1)) (named k).size)) 3 at
      or_else fail_if (ltb (length l) (behind at (named k).size)) 1 (length l)) same))

  tag_found : headed (byte_at l at) ≡ pass → byte_at l at ≡ tag
  tag_found e = (header l at tag (named (byte_at l at)).size e).tag_is

  -- what has tested the field of the byte that stands there has tested the field that should
  pub tries_found : {r : Result ℕ Refusal} → Tries (named (byte_at l at)) tag l at r → Tries (named tag) tag l at r
  tries_found T =
      let values = or_else_given (headed (byte_at l at)) (λ e. ap (λ k. (named k).check l (body at)) (tag_found e)) in
      record {
        finds = T.finds ∙ values ∙ ap (λ c. c or_else (named tag).check l (body at)) length_found;
        goes_on = λ next q.
            let same = tag_found (or_else_parts (headed (byte_at l at)) _ (sym T.finds ∙ ap check_of q)).0 in
            T.goes_on next q ∙ ap (λ k. behind at (named k).size) same;
      }
