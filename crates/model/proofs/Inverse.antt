-- Reader and writer undo each other, as promises of the two calls: from nothing but the records that stand in their `ensures`.
use Rattle.std.specs.Prelude.{Option}
use mathlib.Core.Path.{◌≡◌, refl, sym, ap, ◌∙◌, subst}
use mathlib.Core.Bool.{Bool, true, false, not, ◌&&◌}
use mathlib.Core.List.{List, [], ◌∷◌, ◌++◌}
use Prim.Native.Nat.{ℕ, ◌+◌, ◌*◌}
use native.Mathlib.Omega.{arith}
use borrow.Author.Tests.{eq-eqb, not-false}
use lib.Dec.{eqb}
use lib.IntN.{ℤ}
use lib.ListN.{length, take, drop}
use Rattle.model.specs.declared.Head.{Head}
use Rattle.model.specs.Refusals.{Check, pass, fail, fail_if}
use Rattle.model.specs.Gauge.{Gauge}
use Rattle.model.specs.Checks.{shape_check}
use Rattle.model.specs.Result.{Answer, answered, refused, answer_by, Gives}
use Rattle.model.specs.File.{cells, ringed, rows_offset, columns_offset, weightless, gauge_in, file_check, read_film, gauged_end, file_of, gauge_check, Bytes, Values, InPlace}
use Rattle.model.specs.FileCalls.{gauge_of, head_of, save_check, save_call, LoadAnswer, film, load_answer, load_check, laid_over, Loads, ReadsBack, used}
use Rattle.model.proofs.Checks.{or_else_parts, fail_if_pass}
pub use Rattle.model.proofs.Checks.{answer_passed}
use Rattle.model.proofs.Opening.{placed_length}
use Rattle.model.proofs.File.{file_length_lem, written_reads, read_writes, read_values, weights_placed, placed_reads}
use Rattle.model.specs.declared.Factors.{Factors}

-- the film's own tests, from those of the writer
pub save_gauge : (g : Gauge) (fits : Bool) → gauge_check g fits ≡ pass → gauge_check g true ≡ pass
unfolding gauge_check
save_gauge g fits e =
    let a = or_else_parts (shape_check g.rows rows_offset g.columns columns_offset) _ e in
    let b = or_else_parts (fail_if (not fits) 10 0) _ a.1 in
    let t : fits ≡ true = not-false fits (fail_if_pass (not fits) 10 0 b.0) in
    subst (λ (x : Bool). gauge_check g x ≡ pass) t e

-- Written, then read.
pub write_read : (g : Gauge) (out out' weights thicknesses weights' thicknesses' : List ℕ) (answer : Answer LoadAnswer) → Values g
    → Gives (save_call g out) (answered tt) out'
    → length weights ≡ 1024 → length thicknesses ≡ 1156
    → Loads out' weights thicknesses answer weights' thicknesses'
    → ReadsBack g weights thicknesses answer weights' thicknesses'
write_read g out out' weights thicknesses weights' thicknesses' answer v s w t L =
    let saved : save_check g out ≡ pass = (answer_passed (save_check g out) tt s.answer_is).0 in
    let bytes : out' ≡ file_of g = rw saved at s.lent_is in
    let read = answer_passed (file_check (file_of g)) (gauge_in (file_of g)) (sym (written_reads g v (save_gauge g _ saved))) in
    let passed : load_check out' weights thicknesses ≡ pass = rw (bytes, w, t) read.0 in
    let same : gauge_in out' ≡ g = ap gauge_in bytes ∙ sym read.1 in
    record {
      answer_is = (rw passed at L.answer_is) ∙ ap (λ (x : Gauge). answered (load_answer x)) same;
      weights_are = (rw passed at L.weights_are) ∙ ap (λ (x : Gauge). laid_over x.weights weights) same;
      thicknesses_are = (rw passed at L.thicknesses_are) ∙ ap (λ (x : Gauge). laid_over x.thicknesses thicknesses) same;
    }

-- what was laid over the start of a buffer stands there
module _ {A : Type 0} where
  take_front : (l r : List A) → take (length l) (l ++ r) ≡ l
  take_front [] r = refl
  take_front (x ∷ l) r = ap (λ k. x ∷ k) (take_front l r)

  pub laid : (l before : List A) {after : List A} {n : ℕ} → after ≡ laid_over l before → length l ≡ n → take n after ≡ l
  laid l before {after} {n} e h = ap (take n) e ∙ ap (λ (k : ℕ). take k (laid_over l before)) (sym h) ∙ take_front l (drop (length l) before)

-- What the reader answers is what the file's bytes say: the film whose numbers it laid over its buffers, ..
pub read_film_lem : (bytes weights thicknesses weights' thicknesses' : List ℕ) (h : Head) (wedge : ℤ) (steps : Option Factors) → Bytes bytes
    → Loads bytes weights thicknesses (answered (film h wedge steps)) weights' thicknesses'
    → read_film bytes ≡ answered (used h wedge steps weights' thicknesses')
read_film_lem bytes weights thicknesses weights' thicknesses' h wedge steps B L =
    let g = gauge_in bytes in
    let told = answer_passed (load_check bytes weights thicknesses) (load_answer g) L.answer_is in
    let loaded : load_check bytes weights thicknesses ≡ pass = told.0 in
    let accepts : file_check bytes ≡ pass =
    (or_else_parts (fail_if (not (eqb (length weights) 1024 && eqb (length thicknesses) 1156)) 10 0) _ loaded).1 in
    let reads : read_film bytes ≡ answered g = ap (λ c. answer_by c g) accepts in
    let values = (read_values bytes g B reads).0 in
    let numbers : film h wedge steps ≡ film (head_of g) g.wedge g.steps = told.1 in
    let head : h ≡ head_of g = cc in
    let slope : wedge ≡ g.wedge = cc in
    let factors : steps ≡ g.steps = cc in
    let ws : weights' ≡ laid_over g.weights weights = rw loaded at L.weights_are in
    let ts : thicknesses' ≡ laid_over g.thicknesses thicknesses = rw loaded at L.thicknesses_are in
    let weights_used : take (cells g.rows g.columns) weights' ≡ g.weights = laid g.weights weights ws values.weights_len in
    let thicknesses_used : take (ringed g.rows g.columns) thicknesses' ≡ g.thicknesses =
    laid g.thicknesses thicknesses ts values.thicknesses_len in
    let same : used h wedge steps weights' thicknesses' ≡ g =
    ap (λ x. used x wedge steps weights' thicknesses') head
    ∙ (λ k. gauge_of (head_of g) (weights_used k) (thicknesses_used k) (slope k) (factors k)) in
    reads ∙ ap answered (sym same)

-- .. or the file's refusal.
pub refused_same : {A B : Type 0} (c : Check) (a : A) (b : B) {number place : ℕ} → refused number place ≡ answer_by c a → answer_by c b ≡ refused number place
refused_same pass a b e = let z : ◌≡◌ {A = ℕ} 0 1 = cc in absurd (omega arith)
refused_same (fail n k) a b e = cc

pub read_refusal : (bytes weights thicknesses weights' thicknesses' : List ℕ) (number place : ℕ) → length weights ≡ 1024 → length thicknesses ≡ 1156
    → Loads bytes weights thicknesses (refused number place) weights' thicknesses'
    → read_film bytes ≡ refused number place
read_refusal bytes weights thicknesses weights' thicknesses' number place w t L =
    let same : load_check bytes weights thicknesses ≡ file_check bytes = rw (w, t) in
    refused_same (file_check bytes) (load_answer (gauge_in bytes)) (gauge_in bytes) (rw same at L.answer_is)

-- Read, then written: the writer writes the file's own bytes, if it has its weights.
pub read_write : (bytes weights thicknesses weights' thicknesses' out out' : List ℕ) (h : Head) (wedge : ℤ) (steps : Option Factors) (answer : Answer (Unit {0})) → Bytes bytes → weightless bytes ≡ false
    → Loads bytes weights thicknesses (answered (film h wedge steps)) weights' thicknesses'
    → length out ≡ length bytes
    → Gives (save_call (used h wedge steps weights' thicknesses') out) answer out'
    → (answer ≡ answered tt) × (out' ≡ bytes)
read_write bytes weights thicknesses weights' thicknesses' out out' h wedge steps answer B c L e s =
    let g = used h wedge steps weights' thicknesses' in
    let reads = read_film_lem bytes weights thicknesses weights' thicknesses' h wedge steps B L in
    let values = read_values bytes g B reads in
    let whole : file_of g ≡ bytes = read_writes bytes g B c reads in
    let room : length out ≡ gauged_end g =
    e ∙ ap length (sym whole) ∙ file_length_lem g values.0 in
    let saved : save_check g out ≡ pass =
    rw (eq-eqb _ _ values.0.weights_len, eq-eqb _ _ values.0.thicknesses_len, eq-eqb _ _ room) values.1 in
    (rw saved at s.answer_is, (rw saved at s.lent_is) ∙ whole)

-- .. and if it has none, into a slice with room for them too, the file with the found weights in place, which reads to the same film.
pub read_write_placed : (bytes weights thicknesses weights' thicknesses' out out' : List ℕ) (h : Head) (wedge : ℤ) (steps : Option Factors) (answer : Answer (Unit {0})) → Bytes bytes → weightless bytes ≡ true
    → Loads bytes weights thicknesses (answered (film h wedge steps)) weights' thicknesses'
    → length out ≡ length bytes + 2 * cells h.rows h.columns
    → Gives (save_call (used h wedge steps weights' thicknesses') out) answer out'
    → (answer ≡ answered tt) × InPlace (take (cells h.rows h.columns) weights') bytes out' × (read_film out' ≡ read_film bytes)
read_write_placed bytes weights thicknesses weights' thicknesses' out out' h wedge steps answer B c L e s =
    let g = used h wedge steps weights' thicknesses' in
    let reads = read_film_lem bytes weights thicknesses weights' thicknesses' h wedge steps B L in
    let values = read_values bytes g B reads in
    let P : InPlace g.weights bytes (file_of g) = weights_placed bytes g B c reads in
    let room : length out ≡ gauged_end g = omega (arith, e, placed_length P, values.0.weights_len, file_length_lem g values.0) in
    let saved : save_check g out ≡ pass =
    rw (eq-eqb _ _ values.0.weights_len, eq-eqb _ _ values.0.thicknesses_len, eq-eqb _ _ room) values.1 in
    let file : out' ≡ file_of g = rw saved at s.lent_is in
    (rw saved at s.answer_is, subst (λ (l : List ℕ). InPlace g.weights bytes l) (sym file) P, ap read_film file ∙ placed_reads bytes g B reads)
