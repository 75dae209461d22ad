-- The numbers that a file whose fields have passed holds, its weights, and what the reader gives of them.
use Rattle.std.specs.Prelude.{Option, Some, None, Result, Ok, Err}
use mathlib.Core.Path.{◌≡◌, refl, sym, ap, ◌∙◌, subst}
use mathlib.Core.Bool.{true, false}
use mathlib.Core.List.{List, []}
use Prim.Native.Nat.{ℕ, ◌+◌, ◌*◌, ◌≤◌}
use native.Mathlib.Omega.{arith}
use lib.IntN.{ℤ, pos}
use lib.ListN.{length}
use lib.Seq.{sets}
use Rattle.model.specs.Lists.{tabulate}
use Rattle.model.specs.declared.Factors.{Factors}
use Rattle.model.specs.declared.Head.{Head}
use Rattle.model.specs.declared.Numbers.{Numbers}
use Rattle.model.specs.declared.Refusal.{Refusal}
use Rattle.fault.specs.Numbers.{number_of}
use Rattle.model.specs.Refusals.{Check, pass, fail, check_of}
use Rattle.model.specs.Gauge.{Gauge, factors_of, Stepped}
use Rattle.model.specs.Film.{Film}
use Rattle.model.specs.Coefficients.{formed}
use Rattle.model.specs.Checks.{dominance_check}
use Rattle.model.specs.Accepted.{Limited}
use Rattle.model.specs.Weighing.{weight_search, weights_for, held_check}
use Rattle.model.specs.Bytes.{word_at}
use Rattle.model.specs.Fields.{walk, present}
use Rattle.model.specs.File.{gauged_optional, weights_offset, end_offset, cells_in, ring_in, weightless, carried_in, gauged_parts, gauged_in, numbers_in, gauge_in, gauge_dominance, fields_check}
use Rattle.model.specs.Result.{answered, refused}
use Rattle.model.specs.FileCalls.{gauge_of, head_of, film, loaded_of, laid_over}
use Rattle.model.proofs.Lists.{tabulate_length}
use Rattle.model.proofs.Checks.{or_else_parts}
use Rattle.model.proofs.Fields.{walk_passes, passes_end, end_above}
use Rattle.model.proofs.Weighing.{ones}
use Rattle.model.proofs.Forming.{formed_limited}
use Rattle.model.proofs.File.{NumbersPassed, gauge_shape, steps_stepped, numbers_pass}
use Rattle.model.proofs.Opening.{Shaped, carries_all}
use Rattle.model.proofs.Sides.{cells_low}
use Rattle.text.proofs.Writes.{sets_front}
use Rattle.forming.specs.Cell.{Ringed}
use Rattle.forming.proofs.Cell.{ring_low}
use Rattle.weighing.specs.Searches.{Searches}
use Rattle.reading.specs.Reading.{Decoded, Weighs, LoadsBy}

-- ---- the fields

-- a file whose fields have passed has a shape within its limits, and all its numbers
pub record Whole (l : List ℕ) : Type 0 where
  pub shape : Shaped (numbers_in l).rows (numbers_in l).columns
  pub long : end_offset (carried_in l) (ring_in l) ≤ length l
  pub steps : Stepped (factors_of (numbers_in l).steps)

pub fields_whole : (l : List ℕ) → fields_check (gauged_in l) l ≡ pass → Whole l
fields_whole l e =
    let p = walk_passes (gauged_in l) l 0 (or_else_parts (walk (gauged_in l) l 0) _ e).0 in
    let all = passes_end (gauged_in l) l 0 p (omega arith) in
    record {
      shape = gauge_shape (numbers_in l) p.1;
      long = omega (arith, all, end_above (present gauged_optional (gauged_parts l)) (end_offset (carried_in l) (ring_in l)));
      steps = steps_stepped l e;
    }

-- ---- the weights

module _ (l : List ℕ) {n : Numbers} {t : List ℕ} (D : Decoded l n t) where
  -- a film with these numbers, and others for what the tests of its weights do not look at
  with : (weights : List ℕ) (wedge : ℤ) → gauge_of n.head weights t wedge n.steps ≡ gauge_of (head_of (numbers_in l)) weights (numbers_in l).thicknesses wedge (numbers_in l).steps
  with weights wedge = λ k. gauge_of (D.head_is k) weights (D.thicknesses_are k) wedge (D.steps_are k)

  -- its shape, thicknesses and steps are as forming asks, ..
  pub ringed : (weights : List ℕ) (wedge : ℤ) (steps : Option Factors) → Ringed (gauge_of n.head weights t wedge steps)
  ringed weights wedge steps =
      let w = fields_whole l D.fields in
      rw (D.head_is, D.thicknesses_are)
      (record {
        rows_some = w.shape.rows_some;
        rows_low = w.shape.rows_low;
        columns_some = w.shape.columns_some;
        columns_low = w.shape.columns_low;
        thicknesses_len = tabulate_length _ _;
      })

  pub stepped : Stepped (factors_of n.steps)
  stepped = rw D.steps_are (fields_whole l D.fields).steps

  -- .. as many weights and thicknesses as the buffers hold, ..
  pub few_cells : {k : ℕ} → k ≡ n.head.rows * n.head.columns → k ≤ 1024
  few_cells e =
      let r = ringed [] (pos 0) None in
      omega (arith, e, cells_low n.head.rows n.head.columns r.rows_low r.columns_low)

  pub few_thicknesses : length t ≤ 1156
  few_thicknesses =
      let r = ringed [] (pos 0) None in
      omega (arith, r.thicknesses_len, ring_low n.head.rows n.head.columns r.rows_low r.columns_low)

  -- .. which stand in the file, if it has them, ..
  pub cells_are : n.head.rows * n.head.columns ≡ cells_in l
  cells_are = ap (λ (x : Head). x.rows * x.columns) D.head_is

  pub weights_long : {k : ℕ} → k ≡ n.head.rows * n.head.columns → weightless l ≡ false → weights_offset + 2 * k ≤ length l
  weights_long e c = omega (arith, e, cells_are, carries_all l c, (fields_whole l D.fields).long)

  -- .. and its coefficients, of which the steps give no more than their factors, are within their limits, without sources too
  of_factors : (steps : Option Factors) (weights : List ℕ) → formed (gauge_of n.head weights t (pos 0) (Some (factors_of steps))) ≡ formed (gauge_of n.head weights t (pos 0) steps)
  of_factors None weights = refl
  of_factors (Some f) weights = refl

  module _ {f : Factors} (factors : factors_of n.steps ≡ f) where
    by_factors_lem : (weights : List ℕ) → formed (gauge_of n.head weights t (pos 0) (Some f)) ≡ formed (gauge_of (head_of (numbers_in l)) weights (numbers_in l).thicknesses (pos 0) (numbers_in l).steps)
    by_factors_lem weights = ap (λ x. formed (gauge_of n.head weights t (pos 0) (Some x))) (sym factors) ∙ of_factors n.steps weights ∙ ap formed (with weights (pos 0))

    pub limited : (w : List ℕ) × Limited (formed (gauge_of n.head w t (pos 0) (Some f)))
    limited =
        let w = ones (cells_in l) in
        let p = numbers_pass l (carried_in l) w (walk_passes (gauged_in l) l 0 (or_else_parts (walk (gauged_in l) l 0) _ D.fields).0) in
        let g = gauge_of (head_of (numbers_in l)) w (numbers_in l).thicknesses (pos 0) (numbers_in l).steps in
        let passed : NumbersPassed g = record { shape = p.shape; ceiling = p.ceiling; thicknesses = p.thicknesses; wedge = refl; steps = p.steps } in
        (w, subst Limited (sym (by_factors_lem w)) (formed_limited g passed (tabulate_length _ _)))

    -- weights that are found: the search looks at neither weights nor wedge number
    pub weighs_found : (r : Result (Unit {0}) Refusal) {exit : List ℕ} → weightless l ≡ true → Searches (formed (gauge_of n.head [] t (pos 0) (Some f))) r exit → Weighs l r exit
    unfolding weight_search
    weighs_found r {exit} c S =
        let T = subst (λ (x : Film). Searches x r exit) (by_factors_lem []) S in
        record {
          finds = T.finds ∙ ap (λ none. held_check none (formed (numbers_in l))) (sym c);
          weights_are = λ p. T.weights_are p ∙ ap (λ none. weights_for none (formed (numbers_in l))) (sym c);
        }

  -- weights that stand in the file
  pub weighs_standing : (r : Result (Unit {0}) Refusal) {exit : List ℕ} → weightless l ≡ false → exit ≡ tabulate (cells_in l) (λ i. word_at l (weights_offset + 2 * i))
      → check_of r ≡ gauge_dominance (gauge_of n.head exit t n.wedge n.steps) → Weighs l r exit
  unfolding gauge_dominance dominance_check
  weighs_standing r {exit} c e T =
      let carries = carries_all l c in
      let weights : exit ≡ (numbers_in l).weights = e ∙ ap (λ (k : ℕ). tabulate k (λ i. word_at l (weights_offset + 2 * i))) (sym carries) in
      let same : gauge_of n.head exit t n.wedge n.steps ≡ numbers_in l = λ k. gauge_of (D.head_is k) (weights k) (D.thicknesses_are k) (D.wedge_is k) (D.steps_are k) in
      record {
        finds = T ∙ ap (λ (g : Gauge). dominance_check (formed g)) same ∙ ap (λ none. held_check none (formed (numbers_in l))) (sym c);
        weights_are = λ p. weights ∙ ap (λ none. weights_for none (formed (numbers_in l))) (sym c);
      }

-- ---- what the reader gives, from what the weights gave

module _ (l weights thicknesses : List ℕ) {r : Result (Unit {0}) Refusal} {exit : List ℕ} (W : Weighs l r exit) where
  abbrev found : Check
  found = held_check (weightless l) (formed (numbers_in l))

  pub film_loaded : {n : Numbers} {t weights' thicknesses' : List ℕ} → Decoded l n t → r ≡ Ok tt
      → length exit ≤ length weights → length t ≤ length thicknesses → weights' ≡ sets weights 0 exit → thicknesses' ≡ sets thicknesses 0 t
      → LoadsBy found (gauge_in l) weights thicknesses (answered (loaded_of n)) weights' thicknesses'
  film_loaded {t = t} D e a b p q =
      let passes : found ≡ pass = sym W.finds ∙ ap check_of e in
      let ws = W.weights_are (ap check_of e) in
      record {
        answer_is = rw passes (λ k. answered (film (D.head_is k) (D.wedge_is k) (D.steps_are k)));
        weights_are = rw passes (p ∙ sets_front weights exit a ∙ ap (λ (w : List ℕ). laid_over w weights) ws);
        thicknesses_are = rw passes (q ∙ sets_front thicknesses t b ∙ ap (λ (w : List ℕ). laid_over w thicknesses) D.thicknesses_are);
      }

  pub film_refused : {q : Refusal} → r ≡ Err q → LoadsBy found (gauge_in l) weights thicknesses (refused (number_of q.fault) q.place) weights thicknesses
  film_refused e = let f : found ≡ fail _ _ = sym W.finds ∙ ap check_of e in record { answer_is = rw f; weights_are = rw f; thicknesses_are = rw f }
