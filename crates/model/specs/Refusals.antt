-- Document 01, "Refusals": their places, and the order of tests. Their numbers are in crate `fault`.
use Rattle.std.specs.Prelude.{◌≡◌, Bool, cond, ℕ, ◌<◌, ltb, Result, Ok, Err}
use Rattle.model.specs.Lists.{first_of}
use Rattle.fault.specs.Numbers.{number_of}
use Rattle.model.specs.declared.Refusal.{Refusal}

-- a test of an input passes, or fails with a refusal's number and place
pub data Check : Type 0 where
  pass : Check
  fail : ℕ → ℕ → Check

-- as the code has it
abbrev pub check_of : {A : Type 0} → Result A Refusal → Check
check_of (Ok a) = pass
check_of (Err r) = fail (number_of r.fault) r.place

infixr 40 ◌or_else◌
-- the first that fails wins
abbrev pub ◌or_else◌ : Check → Check → Check
pass or_else y = y
fail number place or_else y = fail number place

abbrev pub fail_if : Bool → ℕ → ℕ → Check
fail_if bad number place = cond bad (fail number place) pass

-- the lowest of the indices below n at which the test finds a fault; `place` gives an index's place
abbrev pub fail_first : (ℕ → Bool) → ℕ → ℕ → (ℕ → ℕ) → Check
fail_first bad n number place = fail_if (ltb (first_of bad n) n) number (place (first_of bad n))

-- a refusal's number is not 0, which stands for an answer where numbers alone are told
pub record Numbered (c : Check) : Type 0 where
  pub some : (number place : ℕ) → c ≡ fail number place → 0 < number
