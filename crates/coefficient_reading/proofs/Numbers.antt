-- The numbers that a file whose fields have passed holds, its weights, and what the reader gives of them.
use mathlib.Core.Path.{◌≡◌, sym, ap, ◌∙◌, subst}
use mathlib.Core.Bool.{true, false}
use mathlib.Core.List.{List, []}
use Rattle.std.specs.Prelude.{Result, Ok, Err}
use Prim.Native.Nat.{ℕ, ◌+◌, ◌*◌, ◌≤◌}
use native.Mathlib.Omega.{arith}
use lib.IntN.{ℤ}
use lib.ListN.{length, take}
use lib.Seq.{sets, length-take-le}
use Rattle.model.specs.declared.Head.{Head}
use Rattle.model.specs.declared.Refusal.{Refusal}
use Rattle.model.specs.Lists.{tabulate}
use Rattle.model.specs.Refusals.{Check, pass, fail, check_of, ◌or_else◌}
use Rattle.model.specs.Film.{Film, film_of, size_of, weighted}
use Rattle.model.specs.Checks.{bad_coefficient, coefficient_check, dominance_check}
use Rattle.model.specs.Accepted.{Sized, Limited}
use Rattle.model.specs.Weighing.{weight_search, weights_for, held_check}
use Rattle.model.specs.Bytes.{word_at}
use Rattle.model.specs.File.{weights_offset, cells_in, weightless, carried_in, fields_check}
use Rattle.model.specs.CoefficientFile.{coefficient_fields, diagonals_offset, rights_offset, ups_offset, sources_offset, longs_at, signed_quads_at, coefficients_in, film_in, coefficient_fields_in}
use Rattle.model.specs.CoefficientCalls.{film_head, LoadsFilm}
use Rattle.model.specs.Result.{Answer, answered, refused}
use Rattle.model.proofs.Checks.{refused_passes}
use Rattle.model.proofs.Lists.{tabulate_length}
use Rattle.model.proofs.Fields.{Passes, fields_pass, passes_end}
use Rattle.model.proofs.Opening.{shape_passes, carried_low, carries_all}
use Rattle.model.proofs.Weighing.{ones}
use Rattle.model.proofs.CoefficientFile.{sized_in, limited_in}
use Rattle.model.proofs.Sides.{cells_low}
use Rattle.text.proofs.Writes.{sets_front}
use Rattle.weighing.specs.Searches.{Searchable, Searches}
use Rattle.coefficient_reading.specs.Reading.{Buffers, Decoded, Stands, rest_check, Weighs}

-- ---- the fields

-- a file whose fields have passed has a shape within its limits, and all its numbers
pub record Whole (l : List ℕ) : Type 0 where
  pub passes : Passes (coefficient_fields (carried_in l) (cells_in l)) l 0
  pub few : cells_in l ≤ 1024
  pub has : carried_in l ≤ 1024
  pub long : 18 + 2 * carried_in l + 20 * cells_in l + 9 ≤ length l

pub fields_whole : (l : List ℕ) → fields_check (coefficient_fields_in l) l ≡ pass → Whole l
fields_whole l e =
    let fields = coefficient_fields (carried_in l) (cells_in l) in
    let p = (fields_pass fields l e).0 in
    let s = shape_passes _ _ _ _ p.1 in
    let few = cells_low _ _ s.rows_low s.columns_low in
    record { passes = p; few = few; has = omega (arith, few, carried_low l (cells_in l)); long = omega (arith, passes_end fields l 0 p (omega arith)) }

-- as many numbers of each list as a table has room for
module _ (l : List ℕ) {h : Head} {n : ℕ} (e : fields_check (coefficient_fields_in l) l ≡ pass) (head : h ≡ film_head (coefficients_in l)) (cells : n ≡ h.rows * h.columns) where
  pub few_numbers : n ≤ 1024
  few_numbers = omega (arith, cells, ap (λ (x : Head). x.rows * x.columns) head, (fields_whole l e).few)

  pub room_in : {A : Type 0} (table : List A) → length table ≡ 1024 → n ≤ length table
  room_in table k = omega (arith, few_numbers)

  pub part_in : {A : Type 0} (table : List A) → length table ≡ 1024 → n ≡ length (take n table)
  part_in table k = sym (length-take-le n table (room_in table k))

-- the lists at the starts of tables, with the head that stands in the file, stand there
pub stands : (l : List ℕ) {h : Head} {from n : ℕ} {d r u : List ℕ} {s : List ℤ} → fields_check (coefficient_fields_in l) l ≡ pass → h ≡ film_head (coefficients_in l) → n ≡ cells_in l
    → from ≡ 18 + 2 * carried_in l → Decoded l from n d r u s → Stands l h (take n d) (take n r) (take n u) (take n s)
stands l {h} {from} {n} {d} {r} {u} {s} e eh en ef D =
    let w = carried_in l in
    let first : from ≡ diagonals_offset w = omega (arith, ef) in
    let second : from + 4 * n + 3 ≡ rights_offset w n = omega (arith, ef) in
    let third : from + 8 * n + 6 ≡ ups_offset w n = omega (arith, ef) in
    let fourth : from + 12 * n + 9 ≡ sources_offset w n = omega (arith, ef) in
    let diagonals : take n d ≡ longs_at l (diagonals_offset w) n = D.diagonals_are ∙ ap (λ (k : ℕ). longs_at l k n) first in
    let rights : take n r ≡ longs_at l (rights_offset w n) n = D.rights_are ∙ ap (λ (k : ℕ). longs_at l k n) second in
    let ups : take n u ≡ longs_at l (ups_offset w n) n = D.ups_are ∙ ap (λ (k : ℕ). longs_at l k n) third in
    let sources : take n s ≡ signed_quads_at l (sources_offset w n) n = D.sources_are ∙ ap (λ (k : ℕ). signed_quads_at l k n) fourth in
    record {
      fields = e;
      same =
          (λ k. film_of (eh k) (coefficients_in l).weights (diagonals k) (rights k) (ups k) (sources k))
          ∙ (λ k. film_of (film_head (coefficients_in l)) (coefficients_in l).weights (longs_at l (diagonals_offset w) (en k)) (longs_at l (rights_offset w (en k)) (en k)) (longs_at l (ups_offset w (en k)) (en k)) (signed_quads_at l (sources_offset w (en k)) (en k)));
    }

-- ---- the tests after the fields

module _ (l : List ℕ) {h : Head} {d r u : List ℕ} {s : List ℤ} (S : Stands l h d r u s) where
  -- with these weights
  pub with : (weights : List ℕ) → film_of h weights d r u s ≡ weighted (coefficients_in l) weights
  with weights = ap (λ (f : Film). weighted f weights) S.same

  pub cells_are : h.rows * h.columns ≡ cells_in l
  cells_are = ap size_of S.same

  pub few_cells : {n : ℕ} → n ≡ h.rows * h.columns → n ≤ 1024
  few_cells e = omega (arith, e, cells_are, (fields_whole l S.fields).few)

  pub weights_long : {n : ℕ} → n ≡ h.rows * h.columns → weightless l ≡ false → weights_offset + 2 * n ≤ length l
  weights_long e c = omega (arith, e, cells_are, carries_all l c, (fields_whole l S.fields).long)

  pub sized : (weights : List ℕ) → length weights ≡ h.rows * h.columns → Sized (film_of h weights d r u s)
  sized weights e = rw (with weights) (sized_in l (carried_in l) weights (e ∙ cells_are) (fields_whole l S.fields).passes)

  -- 14, which does not look at weights
  coefficients_tested : (weights : List ℕ) {c : Check} → c ≡ coefficient_check (film_of h weights d r u s) → c ≡ coefficient_check (coefficients_in l)
  unfolding coefficient_check bad_coefficient
  coefficients_tested weights e = e ∙ ap coefficient_check S.same

  pub fine : (weights : List ℕ) {x : Result (Unit {0}) Refusal} → x ≡ Ok tt → check_of x ≡ coefficient_check (film_of h weights d r u s)
      → coefficient_check (coefficients_in l) ≡ pass
  fine weights e found = sym (coefficients_tested weights found) ∙ ap check_of e

  pub limited : coefficient_check (coefficients_in l) ≡ pass → (weights : List ℕ) → length weights ≡ h.rows * h.columns → Limited (film_of h weights d r u s)
  limited p weights e = rw (with weights) (limited_in l (carried_in l) weights (e ∙ cells_are) (fields_whole l S.fields).passes p)

  pub searchable : coefficient_check (coefficients_in l) ≡ pass → Searchable h d r u
  searchable p = let w = ones (h.rows * h.columns) in (w, (s, limited p w (tabulate_length _ _)))

  module _ (p : coefficient_check (coefficients_in l) ≡ pass) where
    -- the test of the weights comes after it
    next : {c : Check} → c ≡ held_check (weightless l) (coefficients_in l) → c ≡ rest_check l
    next e = e ∙ ap (λ c. c or_else held_check (weightless l) (coefficients_in l)) (sym p)

    -- weights that are found
    pub weighs_found : (x : Result (Unit {0}) Refusal) {exit : List ℕ} → weightless l ≡ true → Searches (film_of h [] d r u []) x exit → Weighs l x exit
    unfolding weight_search
    weighs_found x {exit} c F =
        let T = subst (λ (f : Film). Searches f x exit) S.same (record { finds = F.finds; weights_are = F.weights_are }) in
        record {
          finds = next (T.finds ∙ ap (λ none. held_check none (coefficients_in l)) (sym c));
          weights_are = λ q. T.weights_are q ∙ ap (λ none. weights_for none (coefficients_in l)) (sym c);
        }

    -- weights that stand in the file
    pub weighs_standing : (x : Result (Unit {0}) Refusal) {exit : List ℕ} → weightless l ≡ false → exit ≡ tabulate (cells_in l) (λ i. word_at l (weights_offset + 2 * i))
        → check_of x ≡ dominance_check (film_of h exit d r u s) → Weighs l x exit
    weighs_standing x {exit} c e T =
        let weights : exit ≡ (coefficients_in l).weights = e ∙ ap (λ (n : ℕ). tabulate n (λ i. word_at l (weights_offset + 2 * i))) (sym (carries_all l c)) in
        let same : film_of h exit d r u s ≡ coefficients_in l = with exit ∙ ap (weighted (coefficients_in l)) weights in
        record {
          finds = next (T ∙ ap dominance_check same ∙ ap (λ none. held_check none (coefficients_in l)) (sym c));
          weights_are = λ q. weights ∙ ap (λ none. weights_for none (coefficients_in l)) (sym c);
        }

  -- 14 refuses
  pub weighs_refused : (weights : List ℕ) {exit : List ℕ} {x : Result (Unit {0}) Refusal} {q : Refusal} → x ≡ Err q → check_of x ≡ coefficient_check (film_of h weights d r u s)
      → Weighs l (Err q) exit
  weighs_refused weights e found =
      let fails : coefficient_check (coefficients_in l) ≡ fail _ _ = sym (coefficients_tested weights found) ∙ ap check_of e in
      record { finds = ap (λ c. c or_else held_check (weightless l) (coefficients_in l)) (sym fails); weights_are = λ p. refused_passes p }

-- ---- what the reader gives of a film, by what its tests find

module _ (f : Film) (S : Sized f) (weights diagonals rights ups : List ℕ) (sources : List ℤ) (B : Buffers weights diagonals rights ups sources) where
  few : size_of f ≤ 1024
  few = cells_low _ _ S.rows_low S.columns_low

  -- the buffers have room
  weights_room : length f.weights ≤ length weights
  weights_room = omega (arith, few, S.weights_len, B.weights_len)

  diagonals_room : length f.diagonals ≤ length diagonals
  diagonals_room = omega (arith, few, S.diagonals_len, B.diagonals_len)

  rights_room : length f.rights ≤ length rights
  rights_room = omega (arith, few, S.rights_len, B.rights_len)

  ups_room : length f.ups ≤ length ups
  ups_room = omega (arith, few, S.ups_len, B.ups_len)

  sources_room : length f.sources ≤ length sources
  sources_room = omega (arith, few, S.sources_len, B.sources_len)

  pub film_loaded : {c : Check} {weights' diagonals' rights' ups' : List ℕ} {sources' : List ℤ} → c ≡ pass
      → weights' ≡ sets weights 0 f.weights → diagonals' ≡ sets diagonals 0 f.diagonals → rights' ≡ sets rights 0 f.rights
      → ups' ≡ sets ups 0 f.ups → sources' ≡ sets sources 0 f.sources
      → LoadsFilm c f weights diagonals rights ups sources (answered (film_head f)) weights' diagonals' rights' ups' sources'
  film_loaded e w d r u s =
      record {
        answer_is = rw e;
        weights_are = rw e (w ∙ sets_front weights f.weights weights_room);
        diagonals_are = rw e (d ∙ sets_front diagonals f.diagonals diagonals_room);
        rights_are = rw e (r ∙ sets_front rights f.rights rights_room);
        ups_are = rw e (u ∙ sets_front ups f.ups ups_room);
        sources_are = rw e (s ∙ sets_front sources f.sources sources_room);
      }

-- the film that stands there, with its weights
pub whole_film : (l : List ℕ) {h : Head} {d r u : List ℕ} {s : List ℤ} {exit : List ℕ} {x : Result (Unit {0}) Refusal} → Stands l h d r u s → Weighs l x exit → x ≡ Ok tt
    → film_of h exit d r u s ≡ film_in l
whole_film l {exit = exit} S W e = with l S exit ∙ ap (weighted (coefficients_in l)) (W.weights_are (ap check_of e))

pub film_refused : {c : Check} {f : Film} {weights diagonals rights ups : List ℕ} {sources : List ℤ} {number place : ℕ} → c ≡ fail number place
    → LoadsFilm c f weights diagonals rights ups sources (refused number place) weights diagonals rights ups sources
film_refused e = record { answer_is = rw e; weights_are = rw e; diagonals_are = rw e; rights_are = rw e; ups_are = rw e; sources_are = rw e }

-- what holds of a film holds of the same one
pub loads_same : {c : Check} {f g : Film} {weights diagonals rights ups weights' diagonals' rights' ups' : List ℕ} {sources sources' : List ℤ} {answer : Answer Head} → f ≡ g
    → LoadsFilm c f weights diagonals rights ups sources answer weights' diagonals' rights' ups' sources'
    → LoadsFilm c g weights diagonals rights ups sources answer weights' diagonals' rights' ups' sources'
loads_same {c = c} {weights = w} {diagonals = d} {rights = r} {ups = u} {weights' = w'} {diagonals' = d'} {rights' = r'} {ups' = u'} {sources = s} {sources' = s'} {answer = a} e =
    subst (λ (x : Film). LoadsFilm c x w d r u s a w' d' r' u' s') e
