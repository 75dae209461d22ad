-- Laws of files as lists of fields, each by induction over the list.
--
--   What is written stands at its offsets (`laid`): each header passes, and each body is found behind it.
--   A walk that passes means that the bytes are those fields, with the bodies that stand there (`walked`).
--   A walk looks at no byte beyond the fields that it tests (`walk_same`).
use mathlib.Core.Path.{◌≡◌, refl, sym, ap, ap₂, ◌∙◌, subst}
use mathlib.Core.Bool.{not}
use mathlib.Core.List.{List, [], ◌∷◌, ◌++◌, append_assoc, append-nil}
use Prim.Native.Nat.{ℕ, suc, ◌+◌, ◌/◌, ◌%◌, ◌≤◌, ◌<◌}
use native.Mathlib.Nat.{le_refl, add-zero}
use native.Mathlib.Omega.{arith}
use borrow.Author.Tests.{le-ltb, eq-eqb, ltb-false, eqb-true, not-false}
use lib.Dec.{ltb, eqb}
use lib.ListN.{length, length-append, get_or-append}
use lib.Seq.{get_or-append-add}
use Rattle.model.specs.Lists.{tabulate}
use Rattle.model.specs.Refusals.{pass, ◌or_else◌, fail_if}
use Rattle.model.specs.Bytes.{byte_at, word_at}
use Rattle.model.specs.Fields.{Field, body, behind, fields_end, field_at, field_test, walk, field, bytes_of}
use Rattle.model.specs.File.{fields_check, Bytes}
use Rattle.model.proofs.Lists.{tabulate_is, tabulate_add}
use Rattle.model.proofs.Checks.{or_else_assoc, or_else_parts, fail_if_pass, pass_both}

-- ---- a walk that passes

-- each field's header and values have
abbrev pub Passes : List Field → List ℕ → ℕ → Type 0
Passes [] l at = Unit {0}
Passes (f ∷ fs) l at =
    (field_at l at f.tag f.size ≡ pass) × (f.check l (body at) ≡ pass) × Passes fs l (behind at f.size)

pub walk_passes : (fs : List Field) (l : List ℕ) (at : ℕ) → walk fs l at ≡ pass → Passes fs l at
walk_passes [] l at e = tt
walk_passes (f ∷ fs) l at e =
    let a = or_else_parts (field_test f l at) _ e in
    let b = or_else_parts (field_at l at f.tag f.size) _ a.0 in
    (b.0, b.1, walk_passes fs l (behind at f.size) a.1)

-- and back
pub passes_walk : (fs : List Field) (l : List ℕ) (at : ℕ) → Passes fs l at → walk fs l at ≡ pass
passes_walk [] l at p = refl
passes_walk (f ∷ fs) l at p = pass_both (pass_both p.0 p.1) (passes_walk fs l (behind at f.size) p.2)

-- a walk over two lists of fields, and where it ends
pub walk_append : (fs gs : List Field) (l : List ℕ) (at : ℕ) → walk (fs ++ gs) l at ≡ (walk fs l at or_else walk gs l (fields_end fs at))
walk_append [] gs l at = refl
walk_append (f ∷ fs) gs l at =
    ap (λ c. field_test f l at or_else c) (walk_append fs gs l (behind at f.size)) ∙ sym (or_else_assoc (field_test f l at) _ _)

pub end_append : (fs gs : List Field) (at : ℕ) → fields_end (fs ++ gs) at ≡ fields_end gs (fields_end fs at)
end_append [] gs at = refl
end_append (f ∷ fs) gs at = end_append fs gs (behind at f.size)

-- what a field's passed header says
pub record Header (l : List ℕ) (at tag size : ℕ) : Type 0 where
  pub tag_is : byte_at l at ≡ tag
  pub size_is : word_at l (at + 1) ≡ size
  pub fits : behind at size ≤ length l

pub header : (l : List ℕ) (at tag size : ℕ) → field_at l at tag size ≡ pass → Header l at tag size
unfolding field_at
header l at tag size e =
    let a = or_else_parts (fail_if (ltb (length l) (body at)) 1 (length l)) _ e in
    let b = or_else_parts (fail_if (not (eqb (byte_at l at) tag)) 2 at) _ a.1 in
    let c = or_else_parts (fail_if (not (eqb (word_at l (at + 1)) size)) 3 at) _ b.1 in
    record {
      tag_is = eqb-true _ _ (not-false _ (fail_if_pass _ 2 at b.0));
      size_is = eqb-true _ _ (not-false _ (fail_if_pass _ 3 at c.0));
      fits = ltb-false _ _ (fail_if_pass _ 1 (length l) c.1);
    }

-- a list of fields that passes ends within the file
pub passes_end : (fs : List Field) (l : List ℕ) (at : ℕ) → Passes fs l at → at ≤ length l → fields_end fs at ≤ length l
passes_end [] l at p h = h
passes_end (f ∷ fs) l at p h =
    passes_end fs l (behind at f.size) p.2 (header l at f.tag f.size p.0).fits

-- the bodies that stand in a file from an offset on
abbrev pub bodies_in : List Field → List ℕ → ℕ → List (List ℕ)
bodies_in [] bytes at = []
bodies_in (f ∷ fs) bytes at = tabulate f.size (λ j. byte_at bytes (body at + j)) ∷ bodies_in fs bytes (behind at f.size)

module _ {l : List ℕ} (B : Bytes l) where
  -- a file up to the end of a field is the file up to its start, and the field with the body that stands there
  up_to : {at tag size : ℕ} → Header l at tag size
      → tabulate (behind at size) (byte_at l) ≡ tabulate at (byte_at l) ++ field tag size (tabulate size (λ j. byte_at l (body at + j)))
  up_to {at} {tag} {size} H =
      let end : behind at size ≡ at + (3 + size) = omega arith in
      let b0 : byte_at l (at + 0) ≡ tag = ap (byte_at l) (add-zero at) ∙ H.tag_is in
      let second : byte_at l (at + 2) ≡ byte_at l (at + 1 + 1) = ap (byte_at l) (omega arith) in
      let b1 : byte_at l (at + 1) ≡ size / 256 = omega (arith, H.size_is, B.byte (at + 1 + 1)) in
      let b2 : byte_at l (at + 2) ≡ size % 256 = omega (arith, H.size_is, B.byte (at + 1 + 1)) in
      let place : (j : ℕ) → at + (3 + j) ≡ body at + j = λ j. omega arith in
      ap (λ k. tabulate k (byte_at l)) end
      ∙ tabulate_add at (3 + size) (byte_at l)
      ∙ ap (λ r. tabulate at (byte_at l) ++ r) (tabulate_add 3 size (λ j. byte_at l (at + j))
      ∙ (λ k. b0 k ∷ b1 k ∷ b2 k ∷ tabulate size (λ j. byte_at l (place j k))))

  -- the file up to the end of a list of fields
  pub walked : (fs : List Field) (at : ℕ) → Passes fs l at
      → tabulate (fields_end fs at) (byte_at l) ≡ tabulate at (byte_at l) ++ bytes_of fs (bodies_in fs l at)
  walked [] at p = sym (append-nil _)
  walked (f ∷ fs) at p =
      let next = behind at f.size in
      let rest = bytes_of fs (bodies_in fs l next) in
      walked fs next p.2
      ∙ ap (λ r. r ++ rest) (up_to (header l at f.tag f.size p.0))
      ∙ append_assoc (tabulate at (byte_at l)) _ rest

-- ---- a whole file

-- its fields pass, and nothing follows them
pub fields_pass : (fs : List Field) (l : List ℕ) → fields_check fs l ≡ pass → Passes fs l 0 × (length l ≤ fields_end fs 0)
fields_pass fs l e =
    let a = or_else_parts (walk fs l 0) _ e in
    (walk_passes fs l 0 a.0, ltb-false _ _ (fail_if_pass _ 2 _ a.1))

pub pass_fields : (fs : List Field) (l : List ℕ) → Passes fs l 0 → length l ≤ fields_end fs 0 → fields_check fs l ≡ pass
pass_fields fs l p h = pass_both (passes_walk fs l 0 p) (rw (le-ltb (fields_end fs 0) (length l) h))

-- then it is those fields, with the bodies that stand there
pub whole_file : {l : List ℕ} (B : Bytes l) (fs : List Field) → Passes fs l 0 → length l ≤ fields_end fs 0 → bytes_of fs (bodies_in fs l 0) ≡ l
whole_file {l} B fs p h =
    let len : length l ≡ fields_end fs 0 = omega (arith, h, passes_end fs l 0 p (omega arith)) in
    sym (walked B fs 0 p) ∙ sym (tabulate_is (fields_end fs 0) (byte_at l) 0 l len (λ i b. refl))

-- ---- what is written stands at its offsets

-- a file l begins with the bytes p, and so with fewer of them
pub record Begins (p l : List ℕ) : Type 0 where
  fits : length p ≤ length l
  same : (i : ℕ) → i < length p → byte_at l i ≡ byte_at p i

begins_less : (p q l : List ℕ) → Begins (p ++ q) l → Begins p l
begins_less p q l b =
    record {
      fits = omega (arith, b.fits, length-append p q);
      same = λ i h. b.same i (omega (arith, length-append p q)) ∙ get_or-append p q 0 i h;
    }

pub begins_whole : (l : List ℕ) → Begins l l
begins_whole l = record { fits = le_refl (length l); same = λ i h. refl }

-- a field stands in a file at an offset: its tests pass, and the bytes of its body follow its three bytes of tag and length
pub record Stands (l : List ℕ) (at tag size : ℕ) (bytes : List ℕ) : Type 0 where
  pub passes : field_at l at tag size ≡ pass
  pub inside : (j k : ℕ) → j < size → k ≡ body at + j → byte_at l k ≡ byte_at bytes j

-- the offset at which a field ends
field_length : (p : List ℕ) (at tag size : ℕ) (bytes : List ℕ) → length p ≡ at → length bytes ≡ size
    → length (p ++ field tag size bytes) ≡ behind at size
field_length p at tag size bytes e f = omega (arith, length-append p (field tag size bytes))

-- where a file begins with some bytes and a field, the field stands after those bytes
stands : (l p : List ℕ) (at tag size : ℕ) (bytes : List ℕ) → length p ≡ at → length bytes ≡ size → Begins (p ++ field tag size bytes) l
    → Stands l at tag size bytes
unfolding field_at
stands l p at tag size bytes e f b =
    let fits : behind at size ≤ length l = omega (arith, b.fits, field_length p at tag size bytes e f) in
    let h1 = here 1 (at + 1) (omega arith) refl in
    let h2 = here 2 (at + 1 + 1) (omega arith) (omega arith) in
    record {
      passes =
          rw (
            le-ltb (length l) (body at) (omega arith),
            eq-eqb (byte_at l at) tag (here 0 at (omega arith) (omega arith)),
            eq-eqb (word_at l (at + 1)) size (omega arith),
            le-ltb (length l) (behind at size) (omega arith),
          );
      inside = λ j k h c. here (suc (suc (suc j))) k (omega arith) (omega arith);
    }
  where
    here : (j k : ℕ) → j < 3 + size → k ≡ at + j → byte_at l k ≡ byte_at (field tag size bytes) j
    here j k h c =
        let place : k ≡ length p + j = omega arith in
        ap (byte_at l) place
        ∙ b.same (length p + j) (omega (arith, field_length p at tag size bytes e f))
        ∙ get_or-append-add p (field tag size bytes) j 0

-- each body has its field's length
abbrev pub Fit : List Field → List (List ℕ) → Type 0
Fit [] bodies = Unit {0}
Fit (f ∷ fs) [] = ◌≡◌ {A = ℕ} 0 1
Fit (f ∷ fs) (b ∷ bodies) = (length b ≡ f.size) × Fit fs bodies

-- a list of fields with these bodies stands in a file from an offset on
abbrev pub Laid : List Field → List (List ℕ) → List ℕ → ℕ → Type 0
Laid [] bodies l at = Unit {0}
Laid (f ∷ fs) [] l at = Unit {0}
Laid (f ∷ fs) (b ∷ bodies) l at = Stands l at f.tag f.size b × Laid fs bodies l (behind at f.size)

-- where a file begins with some bytes and a list of fields, these stand after those bytes
pub laid : (fs : List Field) (bodies : List (List ℕ)) (l p : List ℕ) (at : ℕ) → Fit fs bodies → length p ≡ at → Begins (p ++ bytes_of fs bodies) l
    → Laid fs bodies l at
laid [] bodies l p at fit e b = tt
laid (f ∷ fs) [] l p at fit e b = tt
laid (f ∷ fs) (x ∷ bodies) l p at fit e b =
    let front = p ++ field f.tag f.size x in
    let rest = bytes_of fs bodies in
    let b' : Begins (front ++ rest) l = subst (λ k. Begins k l) (sym (append_assoc p (field f.tag f.size x) rest)) b in (
      stands l p at f.tag f.size x e fit.0 (begins_less front rest l b'),
      laid fs bodies l front (behind at f.size) fit.1 (field_length p at f.tag f.size x e fit.0) b',
    )

-- where a list of fields ends is the length of its bytes
pub bytes_length : (fs : List Field) (bodies : List (List ℕ)) (at : ℕ) → Fit fs bodies → at + length (bytes_of fs bodies) ≡ fields_end fs at
bytes_length [] bodies at fit = add-zero at
bytes_length (f ∷ fs) [] at fit = absurd (omega arith)
bytes_length (f ∷ fs) (b ∷ bodies) at fit =
    omega (
      arith,
      fit.0,
      length-append (field f.tag f.size b) (bytes_of fs bodies),
      bytes_length fs bodies (behind at f.size) fit.1,
    )

-- ---- a walk looks at no byte beyond the fields that it tests

-- two files agree in their first n bytes, and neither is shorter
pub record Agree (n : ℕ) (l m : List ℕ) : Type 0 where
  pub same : (at : ℕ) → at < n → byte_at l at ≡ byte_at m at
  pub left : n ≤ length l
  pub right : n ≤ length m

-- a test of values looks at the field's body alone; so do those of a list
pub record Local (f : Field) : Type 0 where
  pub alike : (l m : List ℕ) (at : ℕ) → ((k : ℕ) → at ≤ k → k < at + f.size → byte_at l k ≡ byte_at m k) → f.check l at ≡ f.check m at

abbrev pub AllLocal : List Field → Type 0
AllLocal [] = Unit {0}
AllLocal (f ∷ fs) = Local f × AllLocal fs

pub end_above : (fs : List Field) (at : ℕ) → at ≤ fields_end fs at
end_above [] at = le_refl at
end_above (f ∷ fs) at = omega (arith, end_above fs (behind at f.size))

module _ {n : ℕ} {l m : List ℕ} (A : Agree n l m) where
  -- a field that ends within those bytes passes or fails alike
  pub field_same : (at tag size : ℕ) → behind at size ≤ n → field_at l at tag size ≡ field_at m at tag size
  unfolding field_at
  field_same at tag size h =
      rw (
        le-ltb (length l) (body at) (omega (arith, A.left)),
        le-ltb (length m) (body at) (omega (arith, A.right)),
        le-ltb (length l) (behind at size) (omega (arith, A.left)),
        le-ltb (length m) (behind at size) (omega (arith, A.right)),
        A.same at (omega arith),
        A.same (at + 1) (omega arith),
        A.same (at + 1 + 1) (omega arith),
      )

  pub walk_same : (fs : List Field) (at : ℕ) → AllLocal fs → fields_end fs at ≤ n → walk fs l at ≡ walk fs m at
  walk_same [] at a h = refl
  walk_same (f ∷ fs) at a h =
      let next = behind at f.size in
      let low = end_above fs next in
      let values = a.0.alike l m (body at) (λ k b c. A.same k (omega arith)) in
      ap₂ ◌or_else◌ (ap₂ ◌or_else◌ (field_same at f.tag f.size (omega arith)) values) (walk_same fs next a.1 h)
