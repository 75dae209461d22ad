-- A refusal as a caller in C is told of it: its number is returned, and its place written.
use Rattle.std.specs.Prelude.{◌≡◌, ℕ}
use Rattle.model.specs.Refusals.{Check, pass, fail}
use Rattle.model.specs.Result.{Answer, answered, refused}

-- 0 if the call answered
abbrev pub number_in : Check → ℕ
number_in pass = 0
number_in (fail number place) = number

-- the place at exit, from that at entry
abbrev pub place_in : Check → ℕ → ℕ
place_in pass old = old
place_in (fail number place) old = place

-- a call with these tests returned `number`, and left place' where `place` stood
pub record Told (test : Check) (place number place' : ℕ) : Type 0 where
  pub number_is : number ≡ number_in test
  pub place_is : place' ≡ place_in test place

-- a number that the call answers and is lent to write: at exit, from that at entry
abbrev pub value_in : {A : Type 0} → Answer A → A → A
value_in (answered a) old = a
value_in (refused number place) old = old
