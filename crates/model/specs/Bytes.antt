-- Numbers in files: big-endian, signed ones in two's complement; and lists of them.
use Rattle.std.specs.Prelude.{cond, List, [], ◌∷◌, ◌++◌, ℕ, ◌+◌, ◌-◌, ◌*◌, ◌/◌, ◌%◌, ltb, ℤ, pos, negsuc, get_or}

-- the number of 1, 2, 4 or 8 bytes that begins at an offset; past the end a byte counts as 0
abbrev pub byte_at : List ℕ → ℕ → ℕ
byte_at bytes at = get_or bytes at 0

abbrev pub word_at : List ℕ → ℕ → ℕ
word_at bytes at = byte_at bytes at * 256 + byte_at bytes (at + 1)

abbrev pub long_at : List ℕ → ℕ → ℕ
long_at bytes at = word_at bytes at * 65536 + word_at bytes (at + 2)

abbrev pub quad_at : List ℕ → ℕ → ℕ
quad_at bytes at = long_at bytes at * 4294967296 + long_at bytes (at + 4)

-- and back
abbrev pub word : ℕ → List ℕ
word n = n / 256 ∷ n % 256 ∷ []

abbrev pub long : ℕ → List ℕ
long n = word (n / 65536) ++ word (n % 65536)

abbrev pub quad : ℕ → List ℕ
quad n = long (n / 4294967296) ++ long (n % 4294967296)

-- two's complement, of numbers below twice `half`: from `half` on they stand for negative ones; and back
abbrev pub signed_by : ℕ → ℕ → ℤ
signed_by half n = cond (ltb n half) (pos n) (negsuc (half + half - 1 - n))

abbrev pub unsigned_by : ℕ → ℤ → ℕ
unsigned_by half (pos n) = n
unsigned_by half (negsuc n) = half + half - 1 - n

-- of 4 bytes, and of 8
abbrev pub signed_of : ℕ → ℤ
signed_of = signed_by 2147483648

abbrev pub unsigned_of : ℤ → ℕ
unsigned_of = unsigned_by 2147483648

abbrev pub signed_quad : ℕ → ℤ
signed_quad = signed_by 9223372036854775808

abbrev pub unsigned_quad : ℤ → ℕ
unsigned_quad = unsigned_by 9223372036854775808

-- numbers one after another, each as `number` writes it
abbrev pub listed : {A : Type 0} → (A → List ℕ) → List A → List ℕ
listed number [] = []
listed number (x ∷ xs) = number x ++ listed number xs
