-- A coefficient film's file in a slice: seven fields, one after another, fill it.
use mathlib.Core.Path.{◌≡◌, sym, ap, ◌∙◌}
use mathlib.Core.List.{List, [], ◌∷◌, ◌++◌, append_assoc, append-nil}
use Prim.Native.Nat.{ℕ, ◌+◌, ◌*◌, ◌≤◌}
use native.Mathlib.Omega.{arith}
use borrow.Author.Tests.{le-ltb}
use lib.ListN.{length, length-append}
use lib.Seq.{sets}
use Rattle.model.specs.Limits.{side_limit}
use Rattle.model.specs.Film.{Film, size_of}
use Rattle.model.specs.Bytes.{long, listed}
use Rattle.model.specs.Fields.{field, bytes_of}
use Rattle.model.specs.File.{cells, weight_bytes}
use Rattle.model.specs.CoefficientFile.{coefficient_end, coefficient_fields, source_bytes, coefficient_bodies, coefficient_file_of}
use Rattle.model.proofs.Codes.{word_code, long_code, signed_quad_code, listed_length}
use Rattle.text.proofs.Writes.{sets_next, sets_whole}
use Rattle.coefficient_writing.specs.Writable.{coefficient_length, opening_bytes, own_bytes, Numbers, Writable}

pub length_known : (rows columns : ℕ) → rows ≤ side_limit → columns ≤ side_limit → coefficient_length rows columns ≡ coefficient_end (cells rows columns)
unfolding coefficient_length
length_known rows columns h l = rw (le-ltb side_limit rows h, le-ltb side_limit columns l)

-- the same as a sum
pub length_sum : (rows columns : ℕ) → rows ≤ side_limit → columns ≤ side_limit → coefficient_length rows columns ≡ 27 + 22 * cells rows columns
length_sum rows columns h l = length_known rows columns h l ∙ omega arith

module _ (f : Film) where
  -- a film's own four fields
  abbrev diagonals_part : List ℕ
  diagonals_part = field 6 (4 * length f.diagonals) (listed long f.diagonals)

  abbrev rights_part : List ℕ
  rights_part = field 7 (4 * length f.rights) (listed long f.rights)

  abbrev ups_part : List ℕ
  ups_part = field 8 (4 * length f.ups) (listed long f.ups)

  abbrev sources_part : List ℕ
  sources_part = field 9 (8 * length f.sources) (listed source_bytes f.sources)

  -- where each ends
  record Ends (n : ℕ) : Type 0 where
    first : length diagonals_part ≡ 3 + 4 * n
    second : length (diagonals_part ++ rights_part) ≡ 6 + 8 * n
    third : length (diagonals_part ++ rights_part ++ ups_part) ≡ 9 + 12 * n
    whole : length (diagonals_part ++ rights_part ++ ups_part ++ sources_part) ≡ 12 + 20 * n

  ends : {n : ℕ} → Numbers n f → Ends n
  ends {n} N =
      let a : length diagonals_part ≡ 3 + 4 * n = omega (arith, listed_length long_code f.diagonals, N.diagonals_len) in
      let b2 : length rights_part ≡ 3 + 4 * n = omega (arith, listed_length long_code f.rights, N.rights_len) in
      let c3 : length ups_part ≡ 3 + 4 * n = omega (arith, listed_length long_code f.ups, N.ups_len) in
      let d4 : length sources_part ≡ 3 + 8 * n = omega (arith, listed_length signed_quad_code f.sources, N.sources_len) in
      let b = both diagonals_part rights_part a b2 in
      let c = both (diagonals_part ++ rights_part) ups_part b c3 in
      let d = both (diagonals_part ++ rights_part ++ ups_part) sources_part c d4 in
      record { first = a; second = sum2 n b; third = sum3 n c; whole = sum4 n d }
    where
      both : (xs ys : List ℕ) {i j : ℕ} → length xs ≡ i → length ys ≡ j → length (xs ++ ys) ≡ i + j
      both xs ys e f = omega (arith, length-append xs ys)

      sum2 : (n : ℕ) {k : ℕ} → k ≡ 3 + 4 * n + (3 + 4 * n) → k ≡ 6 + 8 * n
      sum2 n e = omega arith

      sum3 : (n : ℕ) {k : ℕ} → k ≡ 3 + 4 * n + (3 + 4 * n) + (3 + 4 * n) → k ≡ 9 + 12 * n
      sum3 n e = omega arith

      sum4 : (n : ℕ) {k : ℕ} → k ≡ 3 + 4 * n + (3 + 4 * n) + (3 + 4 * n) + (3 + 8 * n) → k ≡ 12 + 20 * n
      sum4 n e = omega arith

  pub own_put : (n at : ℕ) (out : List ℕ) {l1 l2 l3 l4 : List ℕ} → Numbers n f
      → l1 ≡ sets out at diagonals_part → l2 ≡ sets l1 (at + 3 + 4 * n) rights_part → l3 ≡ sets l2 (at + 6 + 8 * n) ups_part → l4 ≡ sets l3 (at + 9 + 12 * n) sources_part
      → l4 ≡ sets out at (own_bytes f)
  own_put n at out N e1 e2 e3 e4 =
      let k = ends N in
      let d2 = sets_next out diagonals_part rights_part at (at + 3 + 4 * n) e1 e2 (omega (arith, k.first)) in
      let d3 = sets_next out (diagonals_part ++ rights_part) ups_part at (at + 6 + 8 * n) d2 e3 (omega (arith, k.second)) in
      sets_next out (diagonals_part ++ rights_part ++ ups_part) sources_part at (at + 9 + 12 * n) d3 e4 (omega (arith, k.third))

-- and all seven
module _ (f : Film) (out : List ℕ) (R : Writable f out) where
  abbrev opened : List ℕ
  opened = opening_bytes f

  abbrev own : List ℕ
  own = own_bytes f

  -- the file's fields, each with its length
  fields_are : opened ++ own ≡ bytes_of (coefficient_fields (size_of f) (size_of f)) (coefficient_bodies f)
  fields_are =
      let f1 = field 1 2 (f.rows ∷ f.columns ∷ []) in
      let f2 = field 2 4 (long f.ceiling) in
      let f3 = field 3 (2 * length f.weights) (weight_bytes f.weights) in
      let N = R.numbers in
      append_assoc (f1 ++ f2) f3 own
      ∙ ap (λ r. f1 ++ (f2 ++ (f3 ++ r))) (four (diagonals_part f) (rights_part f) (ups_part f) (sources_part f))
      ∙ (λ k. f1 ++ (f2 ++ (field 3 (2 * R.weights_len k) (weight_bytes f.weights) ++ (field 6 (4 * N.diagonals_len k) (listed long f.diagonals) ++ (field 7 (4 * N.rights_len k) (listed long f.rights) ++ (field 8 (4 * N.ups_len k) (listed long f.ups) ++ (field 9 (8 * N.sources_len k) (listed source_bytes f.sources) ++ [])))))))
    where
      four : (a b c d : List ℕ) → a ++ b ++ c ++ d ≡ a ++ (b ++ (c ++ (d ++ [])))
      four a b c d = append_assoc (a ++ b) c d ∙ append_assoc a b (c ++ d) ∙ ap (λ r. a ++ (b ++ (c ++ r))) (sym (append-nil d))

  pub film_put : {l k : List ℕ} → l ≡ sets out 0 opened → k ≡ sets l (15 + 2 * length f.weights) own → k ≡ coefficient_file_of f
  unfolding coefficient_file_of
  film_put e1 e2 =
      let w = listed_length word_code f.weights in
      let c = ends f R.numbers in
      let place : 15 + 2 * length f.weights ≡ length opened = omega arith in
      let room : length (opened ++ own) ≡ length out = omega (arith, length-append opened own, c.whole, R.out_len, R.weights_len) in
      sets_next out opened own 0 (15 + 2 * length f.weights) e1 e2 (omega (arith, place)) ∙ sets_whole out (opened ++ own) room ∙ fields_are
