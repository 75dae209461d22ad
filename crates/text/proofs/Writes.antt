-- Texts one after another in a lent slice.
use mathlib.Core.Path.{◌≡◌, refl, sym, ap, ◌∙◌}
use mathlib.Core.Bool.{true, false, true≢false}
use mathlib.Core.List.{List, [], ◌∷◌, ◌++◌, append_assoc, append-nil}
use Prim.Native.Nat.{ℕ, suc, ◌+◌, ◌≤◌, ◌<◌}
use native.Mathlib.Nat.{add-zero, zero-add}
use native.Mathlib.Numerals.{add-one}
use native.Mathlib.Omega.{arith}
use lib.IntN.{ℤ, pos, negsuc}
use lib.Signed.{lt_z}
use borrow.Author.Tests.{ltb-true}
use borrow.Rule.Slice.PartMut.{put_mid}
use lib.ListN.{length, length-append, get_or, set, take, drop}
use lib.Seq.{sets, sets-eq, length-sets, take-suc, take-length, drop-length}
use Rattle.std.proofs.lemmas.Slice.{put_mid-paste}
use Rattle.std.proofs.lemmas.List.Edits.{paste_all}
use Rattle.model.specs.Integers.{positive_part, negative_part}
use Rattle.model.specs.Report.{decimal, signed}
use Rattle.text.specs.Writes.{Fits, Writes}

-- two lists, one after the other
module _ {A : Type 0} where
  pub sets_append : (l xs ys : List A) (i place : ℕ) → place ≡ i + length xs → sets l i (xs ++ ys) ≡ sets (sets l i xs) place ys
  sets_append l [] ys i place e = ap (λ k. sets l k ys) (sym (e ∙ add-zero i))
  sets_append l (x ∷ xs) ys i place e = sets_append (set l i x) xs ys (suc i) place (omega arith)

  pub sets_next : (l xs ys : List A) (i place : ℕ) {m k : List A} → m ≡ sets l i xs → k ≡ sets m place ys → place ≡ i + length xs
      → k ≡ sets l i (xs ++ ys)
  sets_next l xs ys i place e f p = f ∙ ap (λ (r : List A). sets r place ys) e ∙ sym (sets_append l xs ys i place p)

-- a part of a list exchanged, as a slice's part that is copied into
pub put_mid-sets : {A : Type 0} (a k : ℕ) (xs ys zs : List A) → ys ≡ zs → k ≡ length zs → a + length zs ≤ length xs → put_mid a k xs ys ≡ sets xs a zs
put_mid-sets a k xs ys zs e h l =
    put_mid-paste a k xs ys zs (length zs) e (sym h) refl ∙ paste_all xs a zs (length zs) refl ∙ sym (simp append_assoc at (sets-eq zs xs a l))

-- the slice is as long as before
pub writes_length : {text before after : List ℕ} {at next : ℕ} → Writes text before at after next → length after ≡ length before
writes_length {text} {before} {after} {at} w = ap length w.bytes_are ∙ length-sets before at text

-- a text that fits has room for its first part, and for the rest after that
pub fits_first : (a b : List ℕ) {out : List ℕ} {at : ℕ} → Fits (a ++ b) out at → Fits a out at
fits_first a b f = record { room = omega (arith, f.room, length-append a b) }

pub fits_rest : (a b : List ℕ) {out after : List ℕ} {at next : ℕ} → Fits (a ++ b) out at → Writes a out at after next → Fits b after next
fits_rest a b {out} {after} {at} {next} f w =
    record { room = omega (arith, f.room, length-append a b, w.next_is, writes_length w) }

-- both are written by writing the one and then the other
pub writes_then : {a b out middle after : List ℕ} {at between next : ℕ} → Writes a out at middle between → Writes b middle between after next
    → Writes (a ++ b) out at after next
writes_then {a} {b} {out} {middle} {after} {at} {between} {next} v w =
    record {
      bytes_are = sets_next out a b at between v.bytes_are w.bytes_are v.next_is;
      next_is = omega (arith, v.next_is, w.next_is, length-append a b);
    }

-- from the start on, and over the whole slice
pub sets_front : {A : Type 0} (l xs : List A) → length xs ≤ length l → sets l 0 xs ≡ xs ++ drop (length xs) l
sets_front l xs h = sets-eq xs l 0 (omega arith) ∙ simp zero-add

pub sets_whole : (l xs : List ℕ) → length xs ≡ length l → sets l 0 xs ≡ xs
sets_whole l xs e = sets_front l xs (omega arith) ∙ rw (e, drop-length l, append-nil)

-- A loop that writes a list's numbers, as bytes or as they are: those of the first i are written.
pub record Put {A B : Type 0} (bytes : List A → List B) (source : List A) (at : ℕ) (before : List B) (i : ℕ) (after : List B) : Type 0 where
  pub within : i ≤ length source
  pub done : after ≡ sets before at (bytes (take i source))
  pub len : length after ≡ length before

module _ {A B : Type 0} {bytes : List A → List B} {source : List A} {at : ℕ} {before : List B} where
  pub put_none : bytes [] ≡ [] → Put bytes source at before 0 before
  put_none e = record { within = omega arith; done = rw e; len = refl }

  -- one number more: its bytes go to the place after those written
  pub put_more : (d : A) {i place : ℕ} {after next : List B} → i < length source
      → bytes (take i source ++ get_or source i d ∷ []) ≡ bytes (take i source) ++ bytes (get_or source i d ∷ [])
      → place ≡ at + length (bytes (take i source)) → Put bytes source at before i after
      → next ≡ sets after place (bytes (get_or source i d ∷ [])) → Put bytes source at before (i + 1) next
  put_more d {i} {place} {after} {next} h b e p n =
      let new = bytes (get_or source i d ∷ []) in
      let more : take (i + 1) source ≡ take i source ++ get_or source i d ∷ [] = rw add-one (take-suc source i d h) in
      record {
        within = omega arith;
        done = sets_next before (bytes (take i source)) new at place p.done n e ∙ ap (sets before at) (sym b ∙ ap bytes (sym more));
        len = ap length n ∙ length-sets after place new ∙ p.len;
      }

  -- all of them
  pub put_all : {i : ℕ} {after : List B} → length source ≤ i → Put bytes source at before i after → after ≡ sets before at (bytes source)
  put_all {i} {after} h p =
      let e : i ≡ length source = omega (arith, p.within) in
      p.done ∙ ap (λ (l : List A). sets before at (bytes l)) (ap (λ k. take k source) e ∙ take-length source)

-- a signed number's text, below 0 and not
pub signed_below : (z : ℤ) → lt_z z (pos 0) ≡ true → signed z ≡ (45 ∷ []) ++ decimal (negative_part z)
signed_below (pos n) t = let h : n < 0 = ltb-true n 0 t in absurd (omega arith)
signed_below (negsuc n) t = refl

pub signed_above : (z : ℤ) → lt_z z (pos 0) ≡ false → signed z ≡ decimal (positive_part z)
signed_above (pos n) t = refl
signed_above (negsuc n) t = absurd (true≢false t)
