-- Numbers in files, by one law for every width, and lists of them.
--
--   What is written of a number is read back, and bytes are written as they are read (`Code`); so with numbers of twice the width (`doubled`)
--   and with signed ones (`signed_code`). Bytes, words, longs and quads are instances.
--   What holds of a number holds of a list of them, one after another from any offset on (`listed-..`).
use mathlib.Core.Path.{◌≡◌, refl, sym, ap, ap₂, ◌∙◌}
use mathlib.Core.List.{List, [], ◌∷◌, ◌++◌}
use Prim.Native.Nat.{ℕ, zero, suc, ◌+◌, ◌-◌, ◌*◌, ◌/◌, ◌%◌, ◌≤◌, ◌<◌}
use native.Mathlib.Nat.{add-zero, zero-add, mul-zero, mul-suc, mul-le-mul_left, mod-lt, div-lt_iff_lt-mul, div-add-mod', le_of_suc-le-suc}
use native.Mathlib.Omega.{arith}
use borrow.Author.Tests.{lt-ltb, le-ltb}
use lib.Arith.{digits_div, digits_mod, digits_lt}
use lib.IntN.{ℤ, pos, negsuc, nat_abs}
use lib.ListN.{length, get_or, length-append, get_or-append}
use lib.Seq.{get_or-append-add}
use Rattle.model.specs.Lists.{tabulate}
use Rattle.model.specs.Bytes.{byte_at, word_at, long_at, quad_at, word, long, quad, signed_by, unsigned_by, signed_of, unsigned_of, signed_quad, unsigned_quad, listed}
use Rattle.model.specs.File.{Bytes}
use Rattle.model.proofs.Integers.{by_order}
use Rattle.model.proofs.Lists.{tabulate_add}

-- ---- lists of bytes: none, one more, and those of two lists

pub bytes_nil : Bytes []
bytes_nil = record { byte = λ i. omega arith }

pub bytes_cons : {x : ℕ} {l : List ℕ} → x < 256 → Bytes l → Bytes (x ∷ l)
bytes_cons {x} {l} h b = record { byte = here }
  where
    here : (i : ℕ) → get_or (x ∷ l) i 0 < 256
    here zero = h
    here (suc i) = b.byte i

pub bytes_append : (p q : List ℕ) → Bytes p → Bytes q → Bytes (p ++ q)
bytes_append [] q a b = b
bytes_append (x ∷ p) q a b = bytes_cons (a.byte 0) (bytes_append p q (record { byte = λ i. a.byte (suc i) }) b)

-- ---- one number

-- Numbers that fit are written as so many bytes. Where those bytes stand they are read as the number; and the bytes at any offset of a file
-- are those of the number read there, which fits.
pub record Code {A : Type 0} (width : ℕ) (write : A → List ℕ) (read : List ℕ → ℕ → A) (Fits : A → Type 0) : Type 0 where
  pub len : (x : A) → length (write x) ≡ width
  pub bytes : (x : A) → Fits x → Bytes (write x)
  pub reads : (x : A) → Fits x → (l : List ℕ) (at : ℕ) → ((j k : ℕ) → j < width → k ≡ at + j → byte_at l k ≡ byte_at (write x) j) → read l at ≡ x
  pub writes : {l : List ℕ} → Bytes l → (at : ℕ) → tabulate width (λ j. byte_at l (at + j)) ≡ write (read l at)
  pub fits : {l : List ℕ} → Bytes l → (at : ℕ) → Fits (read l at)
  -- what is read depends on those bytes alone
  pub alike : (l m : List ℕ) (at : ℕ) → ((k : ℕ) → at ≤ k → k < at + width → byte_at l k ≡ byte_at m k) → read l at ≡ read m at

abbrev Below : ℕ → ℕ → Type 0
Below k n = n < k

byte_code : Code 1 (λ n. n ∷ []) byte_at (Below 256)
byte_code =
    record {
      len = λ n. refl;
      bytes = λ n h. bytes_cons h bytes_nil;
      reads = λ n h l at same. same 0 at (omega arith) (sym (add-zero at));
      writes = λ {l} B at. ap (λ k. byte_at l k ∷ []) (add-zero at);
      fits = λ B at. B.byte at;
      alike = λ l m at same. same at (omega arith) (omega arith);
    }

-- two numbers of one width, the high one first, are a number of twice that width
module _ (w K : ℕ) (write : ℕ → List ℕ) (read : List ℕ → ℕ → ℕ) (c : Code w write read (Below K)) (some : 0 < K) where
  abbrev both : ℕ → List ℕ
  both n = write (n / K) ++ write (n % K)

  abbrev paired : List ℕ → ℕ → ℕ
  paired l at = read l at * K + read l (at + w)

  high_low : (n : ℕ) → n < K * K → n / K < K
  high_low n h = (div-lt_iff_lt-mul some).1 h

  second : (n j : ℕ) → byte_at (both n) (w + j) ≡ byte_at (write (n % K)) j
  second n j = ap (λ t. byte_at (both n) (t + j)) (sym (c.len (n / K))) ∙ get_or-append-add (write (n / K)) (write (n % K)) j 0

  both_reads : (n : ℕ) → n < K * K → (l : List ℕ) (at : ℕ) → ((j k : ℕ) → j < w + w → k ≡ at + j → byte_at l k ≡ byte_at (both n) j) → paired l at ≡ n
  both_reads n h l at same =
      let high = c.reads (n / K) (high_low n h) l at (λ j k b e. same j k (omega arith) e ∙ get_or-append (write (n / K)) (write (n % K)) 0 j (omega (arith, c.len (n / K)))) in
      let low = c.reads (n % K) (mod-lt n some) l (at + w) (λ j k b e. same (w + j) k (omega arith) (omega arith) ∙ second n j) in
      ap₂ (λ a b. a * K + b) high low ∙ div-add-mod' n K

  both_writes : {l : List ℕ} → Bytes l → (at : ℕ) → tabulate (w + w) (λ j. byte_at l (at + j)) ≡ both (paired l at)
  both_writes {l} B at =
      let a = read l at in
      let h = c.fits B (at + w) in
      let place : (j : ℕ) → at + (w + j) ≡ at + w + j = λ j. omega arith in
      tabulate_add w w (λ j. byte_at l (at + j))
      ∙ ap₂ ◌++◌ (c.writes B at ∙ ap write (sym (digits_div a h)))
      ((λ i. tabulate w (λ j. byte_at l (place j i))) ∙ c.writes B (at + w) ∙ ap write (sym (digits_mod a h)))

  pub doubled : Code (w + w) both paired (Below (K * K))
  doubled =
      record {
        len = λ n. omega (arith, length-append (write (n / K)) (write (n % K)), c.len (n / K), c.len (n % K));
        bytes = λ n h. bytes_append (write (n / K)) (write (n % K)) (c.bytes (n / K) (high_low n h)) (c.bytes (n % K) (mod-lt n some));
        reads = both_reads;
        writes = both_writes;
        fits = λ B at. digits_lt (c.fits B at) (c.fits B (at + w));
        alike = λ l m at same.
            ap₂ (λ a b. a * K + b) (c.alike l m at (λ k g b. same k g (omega arith)))
            (c.alike l m (at + w) (λ k g b. same k (omega arith) (omega arith)));
      }

pub word_code : Code 2 word word_at (Below 65536)
word_code = doubled 1 256 (λ n. n ∷ []) byte_at byte_code (omega arith)

pub long_code : Code 4 long long_at (Below 4294967296)
long_code = doubled 2 65536 word word_at word_code (omega arith)

pub quad_code : Code 8 quad quad_at (Below 18446744073709551616)
quad_code = doubled 4 4294967296 long long_at long_code (omega arith)

-- ---- one signed number

-- from −half to half − 1
abbrev pub Within : ℕ → ℤ → Type 0
Within half (pos n) = n < half
Within half (negsuc n) = n < half

pub within_abs : (half : ℕ) (z : ℤ) → nat_abs z < half → Within half z
within_abs half (pos n) h = h
within_abs half (negsuc n) h = omega arith

module _ (w half : ℕ) (write : ℕ → List ℕ) (read : List ℕ → ℕ → ℕ) (c : Code w write read (Below (half + half))) where
  signed_reads : (z : ℤ) → Within half z → signed_by half (unsigned_by half z) ≡ z
  signed_reads (pos n) h = rw (lt-ltb n half h)
  signed_reads (negsuc n) h = rw (le-ltb (half + half - 1 - n) half (omega arith)) (ap negsuc (omega arith))

  signed_writes : (n : ℕ) → n < half + half → unsigned_by half (signed_by half n) ≡ n
  signed_writes n h = by_order n half (λ a. rw (lt-ltb n half a)) (λ a. rw (le-ltb n half a) (omega arith))

  signed_within : (n : ℕ) → n < half + half → Within half (signed_by half n)
  signed_within n h = by_order n half (λ a. rw (lt-ltb n half a) a) (λ a. rw (le-ltb n half a) (omega arith))

  bits_low : (z : ℤ) → Within half z → unsigned_by half z < half + half
  bits_low (pos n) h = omega arith
  bits_low (negsuc n) h = omega arith

  pub signed_code : Code w (λ z. write (unsigned_by half z)) (λ l at. signed_by half (read l at)) (Within half)
  signed_code =
      record {
        len = λ z. c.len (unsigned_by half z);
        bytes = λ z h. c.bytes (unsigned_by half z) (bits_low z h);
        reads = λ z h l at same. ap (signed_by half) (c.reads (unsigned_by half z) (bits_low z h) l at same) ∙ signed_reads z h;
        writes = λ {l} B at. c.writes B at ∙ ap write (sym (signed_writes (read l at) (c.fits B at)));
        fits = λ {l} B at. signed_within (read l at) (c.fits B at);
        alike = λ l m at same. ap (signed_by half) (c.alike l m at same);
      }

pub signed_long_code : Code 4 (λ z. long (unsigned_of z)) (λ l at. signed_of (long_at l at)) (Within 2147483648)
signed_long_code = signed_code 4 2147483648 long long_at long_code

pub signed_quad_code : Code 8 (λ z. quad (unsigned_quad z)) (λ l at. signed_quad (quad_at l at)) (Within 9223372036854775808)
signed_quad_code = signed_code 8 9223372036854775808 quad quad_at quad_code

-- ---- lists of numbers

module _ {A : Type 0} {w : ℕ} {write : A → List ℕ} {read : List ℕ → ℕ → A} {Fits : A → Type 0} (c : Code w write read Fits) where
  -- how many bytes they have, and what those of number i are
  pub listed_length : (xs : List A) → length (listed write xs) ≡ w * length xs
  listed_length [] = sym (mul-zero w)
  listed_length (x ∷ xs) =
      omega (arith, length-append (write x) (listed write xs), c.len x, listed_length xs, mul-suc w (length xs))

  number_bytes : (xs : List A) (d : A) (i j : ℕ) → i < length xs → j < w → byte_at (listed write xs) (w * i + j) ≡ byte_at (write (get_or xs i d)) j
  number_bytes [] d i j h b = absurd (omega arith)
  number_bytes (x ∷ xs) d zero j h b =
      ap (λ t. byte_at (write x ++ listed write xs) (t + j)) (mul-zero w)
      ∙ ap (byte_at (write x ++ listed write xs)) (zero-add j)
      ∙ get_or-append (write x) (listed write xs) 0 j (omega (arith, c.len x))
  number_bytes (x ∷ xs) d (suc i) j h b =
      let place : w * suc i + j ≡ length (write x) + (w * i + j) = omega (arith, mul-suc w i, c.len x) in
      ap (byte_at (write x ++ listed write xs)) place
      ∙ get_or-append-add (write x) (listed write xs) (w * i + j) 0
      ∙ number_bytes xs d i j (le_of_suc-le-suc h) b

  -- where they stand, each is read back
  pub listed_reads : (xs : List A) (d : A) (l : List ℕ) (from : ℕ)
      → ((j k : ℕ) → j < w * length xs → k ≡ from + j → byte_at l k ≡ byte_at (listed write xs) j)
      → (i : ℕ) → i < length xs → Fits (get_or xs i d) → read l (from + w * i) ≡ get_or xs i d
  listed_reads xs d l from same i h f =
      let room : w * i + w ≤ w * length xs = omega (arith, mul-le-mul_left w h, mul-suc w i) in
      c.reads (get_or xs i d) f l (from + w * i) (λ j k b e. same (w * i + j) k (omega arith) (omega arith) ∙ number_bytes xs d i j h b)

  -- bytes are written as they are read
  pub listed_writes : {l : List ℕ} → Bytes l → (n from : ℕ) → tabulate (w * n) (λ j. byte_at l (from + j)) ≡ listed write (tabulate n (λ i. read l (from + w * i)))
  listed_writes {l} B zero from = ap (λ t. tabulate t (λ j. byte_at l (from + j))) (mul-zero w)
  listed_writes {l} B (suc n) from =
      let many : w * suc n ≡ w + w * n = omega (arith, mul-suc w n) in
      let first : from ≡ from + w * 0 = omega (arith, mul-zero w) in
      let place : (j : ℕ) → from + (w + j) ≡ from + w + j = λ j. omega arith in
      let next : (i : ℕ) → from + w + w * i ≡ from + w * suc i = λ i. omega (arith, mul-suc w i) in
      ap (λ t. tabulate t (λ j. byte_at l (from + j))) many
      ∙ tabulate_add w (w * n) (λ j. byte_at l (from + j))
      ∙ ap₂ ◌++◌ (c.writes B from ∙ ap (λ k. write (read l k)) first)
      ((λ k. tabulate (w * n) (λ j. byte_at l (place j k))) ∙ listed_writes B n (from + w) ∙ (λ k. listed write (tabulate n (λ i. read l (next i k)))))

  pub listed_bytes : (xs : List A) (d : A) → ((i : ℕ) → i < length xs → Fits (get_or xs i d)) → Bytes (listed write xs)
  listed_bytes [] d f = bytes_nil
  listed_bytes (x ∷ xs) d f =
      bytes_append (write x) (listed write xs) (c.bytes x (f 0 (omega arith))) (listed_bytes xs d (λ i h. f (suc i) (omega arith)))
