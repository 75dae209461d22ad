-- A reader's five buffers, what is decoded into the starts of tables, and what the tests of a film that stands in a file give.
use Rattle.std.specs.Prelude.{◌≡◌, List, ℕ, ◌+◌, ◌*◌, ℤ, length, take, Result}
use Rattle.model.specs.Refusals.{Check, pass, ◌or_else◌, check_of}
use Rattle.model.specs.Film.{film_of}
use Rattle.model.specs.Checks.{coefficient_check}
use Rattle.model.specs.Weighing.{held_check}
use Rattle.model.specs.File.{weightless, fields_check}
use Rattle.model.specs.CoefficientFile.{longs_at, signed_quads_at, coefficients_in, film_in, coefficient_fields_in}
use Rattle.model.specs.declared.Head.{Head}
use Rattle.model.specs.declared.Refusal.{Refusal}

pub record Buffers (weights diagonals rights ups : List ℕ) (sources : List ℤ) : Type 0 where
  pub weights_len : length weights ≡ 1024
  pub diagonals_len : length diagonals ≡ 1024
  pub rights_len : length rights ≡ 1024
  pub ups_len : length ups ≡ 1024
  pub sources_len : length sources ≡ 1024

-- the tables begin with the n numbers of each list, the first of which stands from an offset on
pub record Decoded (bytes : List ℕ) (from n : ℕ) (diagonals rights ups : List ℕ) (sources : List ℤ) : Type 0 where
  pub diagonals_are : take n diagonals ≡ longs_at bytes from n
  pub rights_are : take n rights ≡ longs_at bytes (from + 4 * n + 3) n
  pub ups_are : take n ups ≡ longs_at bytes (from + 8 * n + 6) n
  pub sources_are : take n sources ≡ signed_quads_at bytes (from + 12 * n + 9) n

-- a file whose fields have passed, and its film's numbers beside the weights
pub record Stands (bytes : List ℕ) (h : Head) (diagonals rights ups : List ℕ) (sources : List ℤ) : Type 0 where
  pub fields : fields_check (coefficient_fields_in bytes) bytes ≡ pass
  pub same : film_of h (coefficients_in bytes).weights diagonals rights ups sources ≡ coefficients_in bytes

-- the tests that come after the fields: 14; then 9, or 16 and 17
abbrev pub rest_check : List ℕ → Check
rest_check bytes = coefficient_check (coefficients_in bytes) or_else held_check (weightless bytes) (coefficients_in bytes)

-- what they find and, where they pass, the film's weights
pub record Weighs (bytes : List ℕ) (r : Result (Unit {0}) Refusal) (exit : List ℕ) : Type 0 where
  pub finds : check_of r ≡ rest_check bytes
  pub weights_are : check_of r ≡ pass → exit ≡ (film_in bytes).weights
