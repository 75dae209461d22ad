-- The fields that film files of every kind begin with, shape, ceiling and weights; and numbers that stand in a field's body.
use mathlib.Core.Path.{◌≡◌, refl, sym, ap, ◌∙◌}
use mathlib.Core.Bool.{Bool, true, false, cond}
use mathlib.Core.List.{List, [], ◌∷◌, ◌++◌}
use Prim.Native.Nat.{ℕ, ◌+◌, ◌*◌, ◌≤◌, ◌<◌}
use native.Mathlib.Omega.{arith}
use borrow.Author.Tests.{le-ltb, ne_eqb}
use lib.Dec.{eqb}
use lib.ListN.{length, get_or, length-append}
use Rattle.model.specs.Limits.{side_limit}
use Rattle.model.specs.Lists.{tabulate}
use Rattle.model.specs.Refusals.{pass, fail, ◌or_else◌, fail_if}
use Rattle.model.specs.Checks.{outside, shape_check}
use Rattle.model.specs.Bytes.{byte_at, word_at, long_at, long, listed}
use Rattle.model.specs.Fields.{Field, body, behind, fields_end, field_at, walk, unexpected_at, field}
use Rattle.model.specs.File.{cells, shape_field, ceiling_field, opening, rows_offset, columns_offset, ceiling_offset, weights_offset, cells_in, weightless, carried, carried_in, fields_check, weight_bytes, InPlace}
use Rattle.model.proofs.Lists.{tabulate_is}
use Rattle.model.proofs.Checks.{within, or_else_parts, fail_if_pass}
use Rattle.model.proofs.Codes.{Code, word_code, long_code, listed_length, listed_reads}
use Rattle.model.proofs.Fields.{Passes, passes_walk, walk_append, header, Stands}

-- what the test of the shape says
pub record Shaped (rows columns : ℕ) : Type 0 where
  pub rows_some : 1 ≤ rows
  pub rows_low : rows ≤ side_limit
  pub columns_some : 1 ≤ columns
  pub columns_low : columns ≤ side_limit

pub shape_passes : (rows columns a b : ℕ) → shape_check rows a columns b ≡ pass → Shaped rows columns
shape_passes rows columns a b e =
    let s = or_else_parts (fail_if (outside rows 1 side_limit) 4 a) _ e in
    let r = within rows 1 side_limit (fail_if_pass _ 4 a s.0) in
    let c = within columns 1 side_limit (fail_if_pass _ 4 b s.1) in
    record { rows_some = r.0; rows_low = r.1; columns_some = c.0; columns_low = c.1 }

-- ---- whether a file has its weights

-- where field 03 stands with n of them it has
pub has_weights : (l : List ℕ) (n : ℕ) → field_at l (fields_end (shape_field ∷ ceiling_field ∷ []) 0) 3 (2 * n) ≡ pass → 1 ≤ n → weightless l ≡ false
has_weights l n e h =
    let size = (header l (fields_end (shape_field ∷ ceiling_field ∷ []) 0) 3 (2 * n) e).size_is in
    ne_eqb (word_at l (fields_end (shape_field ∷ ceiling_field ∷ []) 0 + 1)) 0 (λ z. omega (arith, size, z, h))

-- a file has a weight for each of n cells, or none
pub carried_low : (l : List ℕ) (n : ℕ) → carried l n ≤ n
carried_low l n = go (weightless l)
  where
    go : (none : Bool) → cond none 0 n ≤ n
    go true = omega arith
    go false = omega arith

pub carries_all : (l : List ℕ) → weightless l ≡ false → carried_in l ≡ cells_in l
carries_all l c = ap (λ none. cond none 0 (cells_in l)) c

-- ---- what follows the three fields

-- where they have passed, and the header of the next field is there
pub record Continues (l : List ℕ) (tag : ℕ) : Type 0 where
  pub opens : walk (opening (carried_in l)) l 0 ≡ pass
  pub tag_is : byte_at l (fields_end (opening (carried_in l)) 0) ≡ tag
  pub fits : body (fields_end (opening (carried_in l)) 0) ≤ length l

pub continues : (l : List ℕ) (f : Field) (gs : List Field) → Passes (opening (carried_in l) ++ (f ∷ gs)) l 0 → Continues l f.tag
continues l f gs p =
    let next = header l _ f.tag f.size p.2.2.2.0 in
    record {
      opens = passes_walk (opening (carried_in l)) l 0 (p.0, p.1, (p.2.0, p.2.1, (p.2.2.0, p.2.2.1, tt)));
      tag_is = next.tag_is;
      fits = omega (arith, next.fits);
    }

-- a kind of file whose next field has another tag refuses such a file there
pub tag_refused : (l : List ℕ) (f : Field) (gs : List Field) (tag : ℕ) → Continues l tag → eqb tag f.tag ≡ false
    → fields_check (opening (carried_in l) ++ (f ∷ gs)) l ≡ fail 2 (fields_end (opening (carried_in l)) 0)
unfolding field_at
tag_refused l f gs tag c e =
    let at = fields_end (opening (carried_in l)) 0 in
    let here : field_at l at f.tag f.size ≡ fail 2 at = rw (le-ltb (length l) (body at) c.fits, c.tag_is, e) in
    ap (λ x. x or_else unexpected_at l (fields_end (opening (carried_in l) ++ (f ∷ gs)) 0)) (walk_append (opening (carried_in l)) (f ∷ gs) l 0
    ∙ (λ k. c.opens k or_else ((here k or_else f.check l (body at)) or_else walk gs l (behind at f.size))))

-- what one of the three refuses, each kind of file refuses alike, whatever follows
pub opening_refused : (l : List ℕ) (rest : List Field) (number place : ℕ) → walk (opening (carried_in l)) l 0 ≡ fail number place
    → fields_check (opening (carried_in l) ++ rest) l ≡ fail number place
opening_refused l rest number place e =
    ap (λ x. x or_else unexpected_at l (fields_end (opening (carried_in l) ++ rest) 0)) (walk_append (opening (carried_in l)) rest l 0
    ∙ ap (λ x. x or_else walk rest l (fields_end (opening (carried_in l)) 0)) e)

-- ---- numbers in a field's body

module _ {A : Type 0} {w : ℕ} {write : A → List ℕ} {read : List ℕ → ℕ → A} {Fits : A → Type 0} (c : Code w write read Fits) {l : List ℕ} {at tag : ℕ} where
  -- the body is one number
  pub number_inside : (x : A) → Fits x → Stands l at tag w (write x) → read l (body at) ≡ x
  number_inside x f s = c.reads x f l (body at) s.inside

  -- or a list of n of them
  pub list_inside : (xs : List A) (d : A) (n : ℕ) → length xs ≡ n → ((i : ℕ) → i < n → Fits (get_or xs i d)) → Stands l at tag (w * n) (listed write xs)
      → tabulate n (λ i. read l (body at + w * i)) ≡ xs
  list_inside xs d n e f s =
      let size : w * length xs ≡ w * n = ap (λ (k : ℕ). w * k) e in
      sym (tabulate_is n (λ i. read l (body at + w * i)) d xs e
      (λ i h. sym (listed_reads c xs d l (body at) (λ j k b p. s.inside j k (omega arith) p) i (omega arith) (f i h))))

-- ---- where the first three fields of a film stand in a file, the numbers in the file are the film's

pub record Opened (rows columns ceiling : ℕ) (weights l : List ℕ) : Type 0 where
  pub rows_are : byte_at l rows_offset ≡ rows
  pub columns_are : byte_at l columns_offset ≡ columns
  pub ceiling_is : long_at l ceiling_offset ≡ ceiling
  pub weights_are : tabulate (cells_in l) (λ i. word_at l (weights_offset + 2 * i)) ≡ weights

pub opening_reads : (rows columns ceiling : ℕ) (weights l : List ℕ)
    → length weights ≡ cells rows columns → ceiling < 4294967296 → ((i : ℕ) → i < cells rows columns → get_or weights i 0 < 65536)
    → Stands l 0 1 2 (rows ∷ columns ∷ [])
    → Stands l (fields_end (shape_field ∷ []) 0) 2 4 (long ceiling)
    → Stands l (fields_end (shape_field ∷ ceiling_field ∷ []) 0) 3 (2 * cells rows columns) (weight_bytes weights)
    → Opened rows columns ceiling weights l
opening_reads rows columns ceiling weights l len low words shape top list =
    let r : byte_at l rows_offset ≡ rows = shape.inside 0 3 (omega arith) refl in
    let c : byte_at l columns_offset ≡ columns = shape.inside 1 4 (omega arith) refl in
    record {
      rows_are = r;
      columns_are = c;
      ceiling_is = number_inside long_code ceiling low top;
      weights_are = rw (r, c) (list_inside word_code weights 0 (cells rows columns) len words list);
    }

-- a file with its weights in place is longer by two bytes for each
pub placed_length : {weights bytes out : List ℕ} → InPlace weights bytes out → length out ≡ length bytes + 2 * length weights
placed_length {weights} {bytes} {out} P =
    let full = field 3 (2 * length weights) (weight_bytes weights) in
    omega (
      arith,
      ap length P.was,
      ap length P.is,
      length-append (P.front ++ field 3 0 []) P.back,
      length-append P.front (field 3 0 []),
      length-append (P.front ++ full) P.back,
      length-append P.front full,
      listed_length word_code weights,
    )
