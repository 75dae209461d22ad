-- What a call gives: its answer or its refusal, and what it leaves in a slice that it was lent to write.
use Rattle.std.specs.Prelude.{◌≡◌, List, ℕ, Result as Outcome, Ok, Err}
use Rattle.fault.specs.Numbers.{number_of}
use Rattle.model.specs.Refusals.{Check, pass, fail}
use Rattle.model.specs.declared.Refusal.{Refusal}

-- a call answers, or is refused with a number and a place
pub data Answer (A : Type 0) : Type 0 where
  answered : A → Answer A
  refused : ℕ → ℕ → Answer A

-- as the code has it: its value read by `f`, or a refusal
abbrev pub answer_as : {A B : Type 0} → (A → B) → Outcome A Refusal → Answer B
answer_as f (Ok a) = answered (f a)
answer_as f (Err r) = refused (number_of r.fault) r.place

abbrev pub answer_of : {A : Type 0} → Outcome A Refusal → Answer A
answer_of = answer_as (λ a. a)

-- a call's answer by what its tests find, and whether it was refused, by its answer
abbrev pub answer_by : {A : Type 0} → Check → A → Answer A
answer_by pass a = answered a
answer_by (fail number place) a = refused number place

abbrev pub refusal_in : {A : Type 0} → Answer A → Check
refusal_in (answered a) = pass
refusal_in (refused number place) = fail number place

-- what a lent slice holds after a call: `new` if its tests passed, and what it held if they did not
abbrev pub kept : {A : Type 0} → Check → List A → List A → List A
kept pass new old = new
kept (fail number place) new old = old

-- an answer, and what the one slice that is written then holds
pub record Result (A : Type 0) : Type 0 where
  pub answer : A
  pub lent : List ℕ

-- a slice that is written, and nothing beside it to answer
abbrev pub written : List ℕ → Result (Unit {0})
written new = record { answer = tt; lent = new }

-- a call that is lent one slice to write, by what its tests find; and one whose tests have passed
abbrev pub call_by : {A : Type 0} → Check → Result A → List ℕ → Result (Answer A)
call_by tests r lent = record { answer = answer_by tests r.answer; lent = kept tests r.lent lent }

abbrev pub unrefused : {A : Type 0} → Result A → Result (Answer A)
unrefused r = record { answer = answered r.answer; lent = r.lent }

-- a call gave just that
pub record Gives {A : Type 0} (result : Result A) (answer : A) (exit : List ℕ) : Type 0 where
  pub answer_is : answer ≡ result.answer
  pub lent_is : exit ≡ result.lent
