-- Reading and writing film files are inverse (document 01, "The film file").
--
-- The file of a film is its five fields, one after another, and field 0A where the film has it; that lists of fields are written and walked alike is in
-- `Fields`, that optional ones are found where they were written in `Optional`.
--   What is written reads back: each field stands at its offset, so that its tests pass and its numbers are read.
--   What was read is written back: a walk that passes means that the bytes are the fields, and each body is what the writer makes of the
--   numbers read from it (`bodies_in_lem`).
-- A file may leave the weights to the program (document 02, W5): laws say of how many weights they speak, and `read_by` what is read by whether it does. Writing
-- gives such a file with its weights in place (`weights_placed`).
-- Film F's file, at the end, shows that not every file is refused.
use Rattle.std.specs.Prelude.{Option, Some, None}
use mathlib.Core.Path.{◌≡◌, refl, sym, ap, ap₂, ◌∙◌, subst}
use mathlib.Core.Bool.{Bool, true, false, cond}
use mathlib.Core.List.{List, [], ◌∷◌, ◌++◌}
use Prim.Native.Nat.{ℕ, ◌+◌, ◌*◌, ◌≤◌, ◌<◌}
use native.Mathlib.Nat.{zero-add, add-zero, mul-le-mul, mul-pos}
use native.Mathlib.Omega.{arith}
use lib.Dec.{eqb}
use lib.IntN.{nat_abs}
use lib.ListN.{length, get_or}
use Rattle.model.specs.Limits.{side_limit, thickness_limit, wedge_limit, weight_limit}
use Rattle.model.specs.Lists.{tabulate, first_of}
use Rattle.model.specs.Refusals.{Check, pass, fail, ◌or_else◌}
use Rattle.model.specs.Gauge.{Gauge, weighted_gauge, factors_of, Stepped}
use Rattle.model.specs.Film.{beside, across, neighbours}
use Rattle.model.specs.Coefficients.{formed}
use Rattle.model.specs.Checks.{outside, not_dominant, dominance_check}
use Rattle.model.specs.Accepted.{Limited}
use Rattle.model.specs.Weighing.{found_weights, search_check, weights_for, held_check, Weights, LeastWeights}
use Rattle.model.specs.Result.{answered, refused, answer_by}
use Rattle.model.specs.Bytes.{byte_at, word_at, long_at, word, long, signed_of, unsigned_of}
use Rattle.model.specs.Fields.{Field, body, fields_end, field_at, field, bytes_of, Optional, absent, parts_in, present, givens, fields_in}
use Rattle.model.specs.File.{weights_from, thicknesses_from, thicknesses_field, wedge_field, gauged, rows_offset, columns_offset, ceiling_offset, weights_offset, thicknesses_offset, wedge_offset, end_offset, cells_in, ring_in, weightless, carried_in, gauged_in, numbers_in, gauge_in, gauge_dominance, fields_check, file_check, read_film, weight_bytes, bodies, file_of, gauge_check, Bytes, Values, InPlace, factors_from, steps_check, factors_at, steps_field, gauged_optional, steps_part, steps_of, gauged_parts, parts, gauged_fields, gauged_end}
use Rattle.model.specs.FilmF.{bytes_f, FileEdges}
use Rattle.model.proofs.Lists.{tabulate_length, tabulate_at, tabulate_is, tabulate_below}
use Rattle.model.proofs.Checks.{or_else_parts, pass_both, fail_first_same, answer_passed, refusal_of_lem}
use Rattle.model.proofs.Codes.{bytes_nil, bytes_cons, bytes_append, word_code, long_code, signed_long_code, within_abs, listed_length, listed_writes, listed_bytes}
use Rattle.model.proofs.Fields.{Passes, fields_pass, pass_fields, bodies_in, whole_file, begins_whole, Fit, Laid, laid, bytes_length}
use Rattle.model.proofs.Optional.{part_if, bodies_append, parts_bodies, parts_written}
use Rattle.model.proofs.Opening.{has_weights, Continues, continues, number_inside, Opened, opening_reads}
use Rattle.model.proofs.Numbered.{searched_file}
use Rattle.model.proofs.Weighing.{ones, found_least, found_accepted, none_found, least_weighted}
use Rattle.model.proofs.Forming.{formed_limited, accepted_gauge}
use Rattle.model.proofs.GaugeTests.{cells_of, ring_of, gauge_tests, thicknesses_anywhere, wedge_anywhere, steps_anywhere}
use Rattle.model.specs.declared.Factors.{Factors}
pub use Rattle.model.proofs.GaugeTests.{NumbersPassed, GaugePassed, gauge_passes, gauge_shape, wedge_low, stepped}

-- ---- the fields and the numbers of a file with so many weights

abbrev pub fields_by : ℕ → List ℕ → List Field
fields_by w l = fields_in (gauged w (ring_in l)) gauged_optional l

abbrev pub parts_by : ℕ → List ℕ → List (Optional (List ℕ))
parts_by w l = parts_in gauged_optional l (end_offset w (ring_in l))

abbrev pub numbers_by : ℕ → List ℕ → Gauge
numbers_by w l =
    record {
      rows = byte_at l rows_offset;
      columns = byte_at l columns_offset;
      ceiling = long_at l ceiling_offset;
      weights = tabulate w (λ i. word_at l (weights_offset + 2 * i));
      thicknesses = tabulate (ring_in l) (λ j. byte_at l (thicknesses_offset w + j));
      wedge = signed_of (long_at l (wedge_offset w (ring_in l)));
      steps = steps_of (get_or (parts_by w l) 0 absent);
    }

-- a file with a weight for each cell
abbrev pub standing : List ℕ → Gauge
standing l = numbers_by (cells_in l) l

-- ---- the tests, one by one

-- the lists of a film are tested alike in its file, where they stand at their offsets, and as numbers read from it
pub weights_alike : (l : List ℕ) (n at : ℕ)
    → weights_from (λ i. get_or (tabulate n (λ k. word_at l (at + 2 * k))) i 0) n at ≡ weights_from (λ i. word_at l (at + 2 * i)) n at
weights_alike l n at =
    fail_first_same _ _ n 6 (λ i. at + 2 * i) (λ i h. ap (λ w. eqb w 0) (tabulate_at n (λ k. word_at l (at + 2 * k)) 0 i h))

pub thicknesses_alike : (l : List ℕ) (n at : ℕ)
    → thicknesses_from (λ j. get_or (tabulate n (λ k. byte_at l (at + k))) j 0) n at ≡ thicknesses_from (λ j. byte_at l (at + j)) n at
thicknesses_alike l n at =
    fail_first_same _ _ n 7 (λ j. at + j) (λ j h. ap (λ x. outside x 1 thickness_limit) (tabulate_at n (λ k. byte_at l (at + k)) 0 j h))

-- the steps in the body of their field are those that stand there, and are tested alike
pub factors_in : (l : List ℕ) (at : ℕ) → factors_at (tabulate 2 (λ j. byte_at l (at + j))) 0 ≡ factors_at l at
factors_in l at = λ k. record { along = byte_at l (add-zero at k); across = byte_at l (at + 1) }

steps_pass : (l : List ℕ) (at : ℕ) (there : Bool) → Passes (present gauged_optional (part_if there steps_field l at ∷ [])) l at
    → steps_check (steps_of (part_if there steps_field l at)) (body at) ≡ pass
steps_pass l at true p = ap (λ f. factors_from f (body at)) (factors_in l (body at)) ∙ p.1
steps_pass l at false p = refl

-- so a walk over the film's fields tests the numbers that stand in the file; what weights the film has does not count here
pub numbers_pass : (l : List ℕ) (w : ℕ) (weights : List ℕ) → Passes (fields_by w l) l 0 → NumbersPassed (weighted_gauge (numbers_by w l) weights)
numbers_pass l w weights p =
    let at = end_offset w (ring_in l) in
    record {
      shape = p.1;
      ceiling = p.2.1;
      thicknesses = thicknesses_anywhere (λ j. get_or (numbers_by w l).thicknesses j 0) (ring_in l) (thicknesses_offset w) (thicknesses_offset (cells_in l)) (thicknesses_alike l (ring_in l) (thicknesses_offset w) ∙ p.2.2.2.1);
      wedge = wedge_anywhere (numbers_by w l).wedge (wedge_offset w (ring_in l)) (wedge_offset (cells_in l) (ring_in l)) p.2.2.2.2.1;
      steps = steps_anywhere (numbers_by w l).steps (body at) _ (steps_pass l at (eqb (byte_at l at) 10) p.2.2.2.2.2);
    }

-- what the tests of the fields say of the steps that stand in a file
pub steps_stepped : (l : List ℕ) → fields_check (gauged_in l) l ≡ pass → Stepped (factors_of (gauge_in l).steps)
steps_stepped l e = stepped (gauge_in l).steps _ (numbers_pass l (carried_in l) [] (fields_pass (gauged_in l) l e).0).steps

-- ---- what is read, by whether the file leaves the weights to the program

module _ (none : Bool) (l : List ℕ) where
  -- as many weights as it has
  abbrev has_of : ℕ
  has_of = cond none 0 (cells_in l)

  abbrev check_by : Check
  check_by = fields_check (fields_by has_of l) l or_else held_check none (formed (numbers_by has_of l))

  abbrev gauge_by : Gauge
  gauge_by = weighted_gauge (numbers_by has_of l) (weights_for none (formed (numbers_by has_of l)))

  pub record PassedBy : Type 0 where
    pub fields : Passes (fields_by has_of l) l 0
    pub ends : length l ≤ fields_end (fields_by has_of l) 0
    pub held : held_check none (formed (numbers_by has_of l)) ≡ pass

  passed_by : check_by ≡ pass → PassedBy
  passed_by e =
      let a = or_else_parts (fields_check (fields_by has_of l) l) _ e in
      let b = fields_pass (fields_by has_of l) l a.0 in
      record { fields = b.0; ends = b.1; held = a.1 }

-- weights that are found: the film's coefficients are within their limits, so the search is one that found the least
formed_found : (l : List ℕ) → Passes (fields_by 0 l) l 0 → Limited (formed (weighted_gauge (numbers_by 0 l) (ones (cells_in l))))
formed_found l p = formed_limited (weighted_gauge (numbers_by 0 l) (ones (cells_in l))) (numbers_pass l 0 (ones (cells_in l)) p) (tabulate_length _ _)

pub found_in : (l : List ℕ) → PassedBy true l → LeastWeights (formed (numbers_by 0 l)) (found_weights (formed (numbers_by 0 l)))
found_in l P = found_least (formed (numbers_by 0 l)) (ones (cells_in l)) (formed_found l P.fields) P.held

-- either way all tests of the film's numbers pass
gauge_held : (none : Bool) (l : List ℕ) → PassedBy none l → GaugePassed (gauge_by none l)
unfolding gauge_dominance dominance_check
gauge_held true l P =
    accepted_gauge (gauge_by true l) (numbers_pass l 0 (found_weights (formed (numbers_by 0 l))) P.fields)
    (found_accepted (formed (numbers_by 0 l)) (ones (cells_in l)) (formed_found l P.fields) P.held)
gauge_held false l P =
    record {
      numbers = numbers_pass l (cells_in l) (standing l).weights P.fields;
      weights = weights_alike l (cells_in l) weights_offset ∙ P.fields.2.2.1;
      dominant = P.held;
    }

-- ---- what is written reads back

-- the bodies of a film's fields have their lengths, so that the fields stand in the film's own file
parts_fit : (s : Option Factors) → Fit (present gauged_optional (steps_part s ∷ [])) (givens (steps_part s ∷ []))
parts_fit None = tt
parts_fit (Some f) = (refl, tt)

bodies_fit : (g : Gauge) → Values g → Fit (gauged_fields g) (bodies g ++ givens (parts g))
bodies_fit g v =
    let weights : length (weight_bytes g.weights) ≡ 2 * cells_of g = listed_length word_code g.weights ∙ ap (λ n. 2 * n) v.weights_len in
    (refl, (refl, (weights, (v.thicknesses_len, (refl, parts_fit g.steps)))))

file_laid : (g : Gauge) → Values g → Laid (gauged_fields g) (bodies g ++ givens (parts g)) (file_of g) 0
unfolding file_of
file_laid g v = laid (gauged_fields g) (bodies g ++ givens (parts g)) (file_of g) [] 0 (bodies_fit g v) refl (begins_whole (file_of g))

-- steps that are written are those that are found
steps_back : (s : Option Factors) → steps_of (steps_part s) ≡ s
steps_back None = refl
steps_back (Some f) = refl

-- where a film's fields stand in a file that ends with them, the numbers in the file are the film's
module _ (g : Gauge) (l : List ℕ) (v : Values g) (h : nat_abs g.wedge ≤ wedge_limit) (L : Laid (gauged_fields g) (bodies g ++ givens (parts g)) l 0) (ends : length l ≤ gauged_end g) where
  opened : Opened g.rows g.columns g.ceiling g.weights l
  opened = opening_reads g.rows g.columns g.ceiling g.weights l v.weights_len v.ceiling_long (λ i b. v.weight_word i) L.0 L.1.0 L.1.1.0

  laid_reads : standing l ≡ g
  laid_reads = λ k.
      record {
        rows = opened.rows_are k;
        columns = opened.columns_are k;
        ceiling = opened.ceiling_is k;
        weights = opened.weights_are k;
        thicknesses = thicknesses k;
        wedge = wedge k;
        steps = grid_steps k;
      }
    where
      thicknesses : (standing l).thicknesses ≡ g.thicknesses
      thicknesses =
          rw (opened.rows_are, opened.columns_are)
          (sym (tabulate_is _ _ 0 g.thicknesses v.thicknesses_len
          (λ j b. sym (L.1.1.1.0.inside j (thicknesses_offset (cells_of g) + j) b refl))))

      wedge : (standing l).wedge ≡ g.wedge
      wedge =
          rw (opened.rows_are, opened.columns_are)
          (number_inside signed_long_code g.wedge (within_abs 2147483648 g.wedge (omega arith)) L.1.1.1.1.0)

      found : parts_in gauged_optional l (end_offset (cells_of g) (ring_of g)) ≡ parts g
      found =
          parts_written gauged_optional (parts g) l (end_offset (cells_of g) (ring_of g)) 0 (omega arith, tt) tt
          (record { fit = parts_fit g.steps; laid = L.1.1.1.1.1; ends = ends })

      grid_steps : (standing l).steps ≡ g.steps
      grid_steps = rw (opened.rows_are, opened.columns_are) (ap (λ ps. steps_of (get_or ps 0 absent)) found ∙ steps_back g.steps)

-- where the fields stand in a file, and the numbers in it have passed their tests, so has the walk
steps_walk : (s : Option Factors) (l : List ℕ) (at : ℕ) → Laid (present gauged_optional (steps_part s ∷ [])) (givens (steps_part s ∷ [])) l at → steps_check s (body at) ≡ pass
    → Passes (present gauged_optional (steps_part s ∷ [])) l at
steps_walk None l at L p = tt
steps_walk (Some f) l at L p =
    let along : byte_at l (body at) ≡ f.along = L.0.inside 0 (body at) (omega arith) (omega arith) in
    let across : byte_at l (body at + 1) ≡ f.across = L.0.inside 1 (body at + 1) (omega arith) refl in
    let same : factors_at l (body at) ≡ f = λ k. record { along = along k; across = across k } in
    (L.0.passes, ap (λ x. factors_from x (body at)) same ∙ p, tt)

fields_walk : (l : List ℕ) → Laid (gauged_fields (standing l)) (bodies (standing l) ++ givens (parts (standing l))) l 0 → GaugePassed (standing l)
    → Passes (gauged_fields (standing l)) l 0
fields_walk l L p = (
  L.0.passes,
  p.numbers.shape,
  (
    L.1.0.passes,
    p.numbers.ceiling,
    (
      L.1.1.0.passes,
      sym (weights_alike l (cells_in l) weights_offset) ∙ p.weights,
      (
        L.1.1.1.0.passes,
        sym (thicknesses_alike l (ring_in l) (thicknesses_offset (cells_in l))) ∙ p.numbers.thicknesses,
        (
          L.1.1.1.1.0.passes,
          p.numbers.wedge,
          steps_walk (standing l).steps l (end_offset (cells_in l) (ring_in l)) L.1.1.1.1.1 p.numbers.steps,
        ),
      ),
    ),
  ),
)

-- the fields of the numbers that stand in a file are those that it has
parts_in_lem : (l : List ℕ) (w : ℕ) → parts (numbers_by w l) ≡ parts_by w l
parts_in_lem l w = go (eqb (byte_at l (end_offset w (ring_in l))) 10)
  where
    go : (there : Bool) → let part = part_if there steps_field l (end_offset w (ring_in l)) in
        steps_part (steps_of part) ∷ [] ≡ part ∷ []
    go true = refl
    go false = refl

-- The writer's file has its length, ..
pub file_length_lem : (g : Gauge) → Values g → length (file_of g) ≡ gauged_end g
unfolding file_of
file_length_lem g v = sym (zero-add _) ∙ bytes_length (gauged_fields g) (bodies g ++ givens (parts g)) 0 (bodies_fit g v)

-- .. has its weights, ..
file_weights : (g : Gauge) → Values g → 1 ≤ cells_of g → weightless (file_of g) ≡ false
file_weights g v some = has_weights (file_of g) (cells_of g) (file_laid g v).1.1.0.passes some

-- .. and reads back to the film's numbers.
pub written_reads : (g : Gauge) → Values g → gauge_check g true ≡ pass → read_film (file_of g) ≡ answered g
unfolding file_check gauge_dominance dominance_check
written_reads g v e =
    let l = file_of g in
    let p = gauge_passes g e in
    let s = gauge_shape g p.numbers.shape in
    let L = file_laid g v in
    let same : standing l ≡ g = laid_reads g l v (wedge_low p.numbers) L (omega (arith, file_length_lem g v)) in
    let here = subst (λ (h : Gauge). Laid (gauged_fields h) (bodies h ++ givens (parts h)) l 0) (sym same) L in
    let passed : GaugePassed (standing l) = subst GaugePassed (sym same) p in
    let end : length l ≡ gauged_end (standing l) = file_length_lem g v ∙ ap gauged_end (sym same) in
    let fields = pass_fields (gauged_fields (standing l)) l (fields_walk l here passed) (omega (arith, end)) in
    let found : fields_check (fields_by (cells_in l) l) l ≡ pass =
    subst (λ ps. fields_check (gauged (cells_in l) (ring_in l) ++ present gauged_optional ps) l ≡ pass) (parts_in_lem l (cells_in l)) fields in
    let carries : weightless l ≡ false = file_weights g v (mul-pos s.rows_some s.columns_some) in
    ap (λ none. answer_by (check_by none l) (gauge_by none l)) carries ∙ ap₂ answer_by (pass_both found passed.dominant) same

-- ---- the writer's file consists of bytes

-- a list of fields
abbrev pub Narrow : List Field → List (List ℕ) → Type 0
Narrow [] bs = Unit {0}
Narrow (f ∷ fs) [] = Unit {0}
Narrow (f ∷ fs) (b ∷ bs) = (f.tag < 256) × (f.size < 65536) × Bytes b × Narrow fs bs

pub fields_bytes : (fs : List Field) (bs : List (List ℕ)) → Narrow fs bs → Bytes (bytes_of fs bs)
fields_bytes [] bs n = bytes_nil
fields_bytes (f ∷ fs) [] n = bytes_nil
fields_bytes (f ∷ fs) (b ∷ bs) n =
    bytes_append (field f.tag f.size b) (bytes_of fs bs)
    (bytes_cons n.0 (bytes_append (word f.size) b (word_code.bytes f.size n.1) n.2)) (fields_bytes fs bs n.3)

steps_narrow : (s : Option Factors) → Stepped (factors_of s) → Narrow (present gauged_optional (steps_part s ∷ [])) (givens (steps_part s ∷ []))
steps_narrow None h = tt
steps_narrow (Some f) h =
    (omega arith, omega arith, bytes_cons (omega (arith, h.along_low)) (bytes_cons (omega (arith, h.across_low)) bytes_nil), tt)

-- The file of numbers that pass their tests consists of bytes.
pub file_bytes : (g : Gauge) → Values g → gauge_check g true ≡ pass → Bytes (file_of g)
unfolding file_of
file_bytes g v e =
    let p = gauge_passes g e in
    let s = gauge_shape g p.numbers.shape in
    let count : cells_of g ≤ side_limit * side_limit = mul-le-mul s.rows_low s.columns_low in
    let shape : Bytes (g.rows ∷ g.columns ∷ []) = bytes_cons (omega arith) (bytes_cons (omega arith) bytes_nil) in
    let wedge = signed_long_code.bytes g.wedge (within_abs 2147483648 g.wedge (omega (arith, wedge_low p.numbers))) in
    let optional = steps_narrow g.steps (stepped g.steps _ p.numbers.steps) in
    fields_bytes (gauged_fields g) (bodies g ++ givens (parts g)) (
      omega arith,
      omega arith,
      shape,
      (
        omega arith,
        omega arith,
        long_code.bytes g.ceiling v.ceiling_long,
        (
          omega arith,
          omega arith,
          listed_bytes word_code g.weights 0 (λ i b. v.weight_word i),
          (omega arith, omega arith, record { byte = v.thickness_byte }, (omega arith, omega arith, wedge, optional)),
        ),
      ),
    )

-- ---- what was read is written back

module _ {l : List ℕ} (B : Bytes l) where
  -- the bodies that stand in the file are those of the numbers read from them
  bodies_in_lem : (w : ℕ) → bodies_in (gauged w (ring_in l)) l 0 ≡ bodies (numbers_by w l)
  bodies_in_lem w =
      let ceiling = long_code.writes B ceiling_offset in
      let weights = listed_writes word_code B w weights_offset in
      let wedge = signed_long_code.writes B (wedge_offset w (ring_in l)) in
      λ k.
      ((numbers_by w l).rows ∷ (numbers_by w l).columns ∷ []) ∷ ceiling k ∷ weights k ∷ (numbers_by w l).thicknesses ∷ wedge k ∷ []

  -- so the whole file is its fields
  fields_are : (w : ℕ) → Passes (fields_by w l) l 0 → length l ≤ fields_end (fields_by w l) 0
      → bytes_of (gauged w (ring_in l) ++ present gauged_optional (parts (numbers_by w l))) (bodies (numbers_by w l) ++ givens (parts (numbers_by w l))) ≡ l
  fields_are w p h =
      let required = gauged w (ring_in l) in
      let all : bodies_in (fields_by w l) l 0 ≡ bodies (numbers_by w l) ++ givens (parts_by w l) =
      bodies_append required (present gauged_optional (parts_by w l)) l 0
      ∙ ap₂ (λ bs cs. bs ++ cs) (bodies_in_lem w) (parts_bodies gauged_optional l (end_offset w (ring_in l))) in
      ap (λ ps. bytes_of (required ++ present gauged_optional ps) (bodies (numbers_by w l) ++ givens ps)) (parts_in_lem l w)
      ∙ ap (bytes_of (fields_by w l)) (sym all)
      ∙ whole_file B (fields_by w l) p h

  -- weights have two bytes, those that are found too
  weights_fit : (none : Bool) → PassedBy none l → (length (gauge_by none l).weights ≡ cells_in l) × ((i : ℕ) → get_or (gauge_by none l).weights i 0 < 65536)
  weights_fit true P = let W = found_in l P in (W.holds.len, λ i. omega (arith, W.low i))
  weights_fit false P = (tabulate_length _ _, tabulate_below (cells_in l) _ 65536 (omega arith) (λ i. word_code.fits B (weights_offset + 2 * i)))

  -- the numbers in the file have the lengths and widths that calls ask for
  fields_values : (none : Bool) → PassedBy none l → Values (gauge_by none l)
  fields_values none P =
      let W = weights_fit none P in
      record {
        weights_len = W.0;
        thicknesses_len = tabulate_length _ _;
        ceiling_long = long_code.fits B ceiling_offset;
        weight_word = W.1;
        thickness_byte = tabulate_below (ring_in l) _ 256 (omega arith) (λ j. B.byte (thicknesses_offset (has_of none l) + j));
      }

-- an accepted file has passed its tests, and its numbers are those that stand in it
record ReadAs (none : Bool) (l : List ℕ) (g : Gauge) : Type 0 where
  passed : PassedBy none l
  same : gauge_by none l ≡ g

read_by : (none : Bool) (l : List ℕ) (g : Gauge) → answer_by (check_by none l) (gauge_by none l) ≡ answered g → ReadAs none l g
read_by none l g e =
    let a = answer_passed (check_by none l) (gauge_by none l) (sym e) in
    record { passed = passed_by none l a.0; same = sym a.1 }

read_as : (l : List ℕ) (g : Gauge) → read_film l ≡ answered g → ReadAs (weightless l) l g
unfolding file_check
read_as l g e = read_by (weightless l) l g e

-- an accepted file has tag 04 behind the weights
pub read_continues : (bytes : List ℕ) (g : Gauge) → read_film bytes ≡ answered g → Continues bytes 4
read_continues bytes g e =
    continues bytes (thicknesses_field (ring_in bytes)) (wedge_field ∷ present gauged_optional (gauged_parts bytes)) (read_as bytes g e).passed.fields

-- What was read passes the tests of the calls that take a film's numbers.
pub read_values : (bytes : List ℕ) (g : Gauge) → Bytes bytes → read_film bytes ≡ answered g → Values g × (gauge_check g true ≡ pass)
read_values bytes g B e =
    let none = weightless bytes in
    let r = read_as bytes g e in
    subst (λ (h : Gauge). Values h × (gauge_check h true ≡ pass)) r.same
    (fields_values B none r.passed, gauge_tests (gauge_by none bytes) (gauge_held none bytes r.passed))

-- Writing what was read gives the file's own bytes, if it has its weights; ..
pub read_writes : (bytes : List ℕ) (g : Gauge) → Bytes bytes → weightless bytes ≡ false → read_film bytes ≡ answered g → file_of g ≡ bytes
unfolding file_of file_check
read_writes bytes g B c e =
    let r = read_by false bytes g (subst (λ none. answer_by (check_by none bytes) (gauge_by none bytes) ≡ answered g) c e) in
    ap file_of (sym r.same) ∙ fields_are B (cells_in bytes) r.passed.fields r.passed.ends

-- .. and if it has none, the file with the found weights in place, which reads to the same film's numbers.
pub weights_placed : (bytes : List ℕ) (g : Gauge) → Bytes bytes → weightless bytes ≡ true → read_film bytes ≡ answered g → InPlace g.weights bytes (file_of g)
unfolding file_of file_check
weights_placed bytes g B c e =
    let r = read_by true bytes g (subst (λ none. answer_by (check_by none bytes) (gauge_by none bytes) ≡ answered g) c e) in
    subst (λ (h : Gauge). InPlace h.weights bytes (file_of h)) r.same (placed r.passed)
  where
    placed : PassedBy true bytes → InPlace (gauge_by true bytes).weights bytes (file_of (gauge_by true bytes))
    placed P =
        let h = numbers_by 0 bytes in
        let size : 2 * cells_in bytes ≡ 2 * length (gauge_by true bytes).weights = ap (λ (n : ℕ). 2 * n) (sym (found_in bytes P).holds.len) in
        let back = bytes_of (thicknesses_field (ring_in bytes) ∷ wedge_field ∷ present gauged_optional (parts h)) (h.thicknesses ∷ long (unsigned_of h.wedge) ∷ givens (parts h)) in
        record {
          front = field 1 2 (h.rows ∷ h.columns ∷ []) ++ field 2 4 (long h.ceiling);
          back = back;
          front_len = refl;
          was = sym (fields_are B 0 P.fields P.ends);
          is = ap (λ (n : ℕ). field 1 2 (h.rows ∷ h.columns ∷ []) ++ field 2 4 (long h.ceiling) ++ field 3 n (weight_bytes (gauge_by true bytes).weights) ++ back) size;
        }

-- The film that is read from it has the least weights, ..
pub read_least : (bytes : List ℕ) (g : Gauge) → weightless bytes ≡ true → read_film bytes ≡ answered g → LeastWeights (formed g) g.weights
unfolding file_check
read_least bytes g c e =
    let r = read_by true bytes g (subst (λ none. answer_by (check_by none bytes) (gauge_by none bytes) ≡ answered g) c e) in
    subst (λ (h : Gauge). LeastWeights (formed h) h.weights) r.same (least_weighted (gauge_by true bytes).weights (found_in bytes r.passed))

-- .. and where a file is refused with 16, no weights up to 65,535 do it.
pub refused_none : (bytes : List ℕ) (i : ℕ) → read_film bytes ≡ refused 16 i
    → (z : List ℕ) → Weights (formed (numbers_in bytes)) z → ((j : ℕ) → j < cells_in bytes → get_or z j 0 ≤ weight_limit) → ⊥
refused_none bytes i e z K low =
    let S = searched_file bytes i (refusal_of_lem _ _ e) in
    let fields : fields_check (fields_by 0 bytes) bytes ≡ pass = subst (λ none. fields_check (fields_by (has_of none bytes) bytes) bytes ≡ pass) S.none S.fields_passed in
    let searched : search_check (formed (numbers_by 0 bytes)) ≡ fail 16 i = subst (λ none. search_check (formed (numbers_by (has_of none bytes) bytes)) ≡ fail 16 i) S.none S.found in
    none_found (formed (numbers_by 0 bytes)) (ones (cells_in bytes)) (formed_found bytes (fields_pass (fields_by 0 bytes) bytes fields).0) i searched z
    (subst (λ none. Weights (formed (numbers_by (has_of none bytes) bytes)) z) S.none K) low

pub placed_reads : (bytes : List ℕ) (g : Gauge) → Bytes bytes → read_film bytes ≡ answered g → read_film (file_of g) ≡ read_film bytes
placed_reads bytes g B e = let v = read_values bytes g B e in written_reads g v.0 v.1 ∙ sym e

-- ---- film F

-- Not every file is refused: film F's is accepted; and document 01's lines about files that differ from it.
pub film_f_file : FileEdges
unfolding bytes_f file_of file_check field_at first_of dominance_check not_dominant beside across neighbours
film_f_file = record { reads = refl; writes = refl; empty = refl; without_last = refl; with_another = refl; columns_33 = refl }
