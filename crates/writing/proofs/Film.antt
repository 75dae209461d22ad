-- A film's file in a slice: five fields, one after another, and the optional one where the film has it, fill it.
use Rattle.std.specs.Prelude.{Option, Some, None}
use mathlib.Core.Path.{◌≡◌, refl, sym, ◌∙◌}
use mathlib.Core.List.{List, [], ◌∷◌, ◌++◌, append_assoc}
use Prim.Native.Nat.{ℕ, ◌+◌, ◌*◌, ◌≤◌}
use native.Mathlib.Omega.{arith}
use borrow.Author.Tests.{le-ltb}
use lib.ListN.{length, length-append}
use lib.Seq.{sets}
use Rattle.model.specs.Limits.{side_limit}
use Rattle.model.specs.Gauge.{Gauge}
use Rattle.model.specs.Bytes.{long, unsigned_of}
use Rattle.model.specs.Fields.{fields_end, field, bytes_of, present, givens}
use Rattle.model.specs.File.{cells, ringed, gauged, gauged_optional, end_offset, steps_part, weight_bytes, bodies, parts, gauged_end, file_of}
use Rattle.model.specs.declared.Factors.{Factors}
use Rattle.text.proofs.Writes.{sets_next, sets_whole}
use Rattle.model.proofs.Codes.{word_code, listed_length}
use Rattle.writing.specs.Writable.{steps_bytes, file_length, Writable}

-- the field of the steps has at most five bytes
pub steps_few : (s : Option Factors) → length (steps_bytes s) ≤ 5
steps_few None = omega arith
steps_few (Some f) = omega arith

-- the field of the steps ends behind its bytes
steps_end : (s : Option Factors) (at : ℕ) → fields_end (present gauged_optional (steps_part s ∷ [])) at ≡ at + length (steps_bytes s)
steps_end None at = omega arith
steps_end (Some f) at = omega arith

pub length_known : (g : Gauge) → g.rows ≤ side_limit → g.columns ≤ side_limit → file_length g.rows g.columns g.steps ≡ gauged_end g
unfolding file_length
length_known g h l = rw (le-ltb side_limit g.rows h, le-ltb side_limit g.columns l) (sym (steps_end g.steps _))

-- the same as a sum
pub length_sum : (rows columns : ℕ) (s : Option Factors) → rows ≤ side_limit → columns ≤ side_limit
    → file_length rows columns s ≡ 25 + 2 * cells rows columns + ringed rows columns + length (steps_bytes s)
unfolding file_length
length_sum rows columns s h l = rw (le-ltb side_limit rows h, le-ltb side_limit columns l) (omega arith)

-- as a slice of the file's length has it
pub film_length : (g : Gauge) → gauged_end g ≡ end_offset (cells g.rows g.columns) (ringed g.rows g.columns) + length (steps_bytes g.steps)
film_length g = steps_end g.steps _

module _ (g : Gauge) (out : List ℕ) (R : Writable g out) where
  pub film_put : {l1 l2 l3 l4 l5 l6 : List ℕ}
      → l1 ≡ sets out 0 (field 1 2 (g.rows ∷ g.columns ∷ []))
      → l2 ≡ sets l1 5 (field 2 4 (long g.ceiling))
      → l3 ≡ sets l2 12 (field 3 (2 * length g.weights) (weight_bytes g.weights))
      → l4 ≡ sets l3 (15 + 2 * length g.weights) (field 4 (length g.thicknesses) g.thicknesses)
      → l5 ≡ sets l4 (15 + 2 * length g.weights + 3 + length g.thicknesses) (field 5 4 (long (unsigned_of g.wedge)))
      → l6 ≡ sets l5 (15 + 2 * length g.weights + 3 + length g.thicknesses + 7) (steps_bytes g.steps)
      → l6 ≡ file_of g
  unfolding file_of
  film_put e1 e2 e3 e4 e5 e6 =
      let n = length g.weights in
      let t = length g.thicknesses in
      let f1 = field 1 2 (g.rows ∷ g.columns ∷ []) in
      let f2 = field 2 4 (long g.ceiling) in
      let f3 = field 3 (2 * n) (weight_bytes g.weights) in
      let f4 = field 4 t g.thicknesses in
      let f5 = field 5 4 (long (unsigned_of g.wedge)) in
      let f6 = steps_bytes g.steps in
      let w = listed_length word_code g.weights in
      let k3 : 15 + 2 * n ≡ length (f1 ++ f2 ++ f3) = omega (arith, length-append (f1 ++ f2) f3) in
      let k4 : 15 + 2 * n + 3 + t ≡ length (f1 ++ f2 ++ f3 ++ f4) = omega (arith, length-append (f1 ++ f2 ++ f3) f4) in
      let k5 : 15 + 2 * n + 3 + t + 7 ≡ length (f1 ++ f2 ++ f3 ++ f4 ++ f5) = omega (arith, length-append (f1 ++ f2 ++ f3 ++ f4) f5) in
      let k6 : length (f1 ++ f2 ++ f3 ++ f4 ++ f5 ++ f6) ≡ length out = omega (arith, length-append (f1 ++ f2 ++ f3 ++ f4 ++ f5) f6, R.out_len, R.weights_len, R.thicknesses_len) in
      let d2 = sets_next out f1 f2 0 5 e1 e2 refl in
      let d3 = sets_next out (f1 ++ f2) f3 0 12 d2 e3 refl in
      let d4 = sets_next out (f1 ++ f2 ++ f3) f4 0 (15 + 2 * n) d3 e4 (omega arith) in
      let d5 = sets_next out (f1 ++ f2 ++ f3 ++ f4) f5 0 (15 + 2 * n + 3 + t) d4 e5 (omega arith) in
      let d6 = sets_next out (f1 ++ f2 ++ f3 ++ f4 ++ f5) f6 0 (15 + 2 * n + 3 + t + 7) d5 e6 (omega arith) in
      let ps = parts g in
      let fields : bytes_of (gauged n t ++ present gauged_optional ps) (bodies g ++ givens ps) ≡ f1 ++ f2 ++ f3 ++ f4 ++ f5 ++ f6 =
      sym (append_assoc (f1 ++ f2) f3 (f4 ++ (f5 ++ f6))) ∙ sym (append_assoc (f1 ++ f2 ++ f3) f4 (f5 ++ f6)) ∙ sym (append_assoc (f1 ++ f2 ++ f3 ++ f4) f5 f6) in
      d6
      ∙ sets_whole out (f1 ++ f2 ++ f3 ++ f4 ++ f5 ++ f6) k6
      ∙ sym fields
      ∙ (λ k. bytes_of (gauged (R.weights_len k) (R.thicknesses_len k) ++ present gauged_optional ps) (bodies g ++ givens ps))
