-- The answers of the calls on files and film numbers, as numbers: what each lent number and array holds at exit, from what it held at
-- entry.
use Rattle.std.specs.Prelude.{◌≡◌, List, [], ◌∷◌, ℕ, ℤ, set, Option, Some, None}
use Rattle.model.specs.Result.{Answer, answered, refused, refusal_in}
use Rattle.model.specs.FileCalls.{LoadAnswer, film}
use Rattle.model.specs.declared.Head.{Head}
use Rattle.told.specs.Refused.{Told, value_in}
use Rattle.model.specs.declared.Factors.{Factors}

pub record ReportTold (answer : Answer ℕ) (length place number length' place' : ℕ) : Type 0 where
  pub told : Told (refusal_in answer) place number place'
  pub length_is : length' ≡ value_in answer length

-- rows, columns, ceiling
abbrev pub head_numbers : Answer LoadAnswer → List ℕ → List ℕ
head_numbers (answered (film h wedge steps)) old = h.rows ∷ h.columns ∷ h.ceiling ∷ []
head_numbers (refused number place) old = old

abbrev pub wedge_number : Answer LoadAnswer → ℤ → ℤ
wedge_number (answered (film h wedge steps)) old = wedge
wedge_number (refused number place) old = old

-- whether it has steps, 1 or 0, along, across; the two keep what they held where it has none
abbrev pub steps_numbers : Option Factors → List ℕ → List ℕ
steps_numbers None old = set old 0 0
steps_numbers (Some f) old = 1 ∷ f.along ∷ f.across ∷ []

abbrev pub steps_in : Answer LoadAnswer → List ℕ → List ℕ
steps_in (answered (film h wedge steps)) old = steps_numbers steps old
steps_in (refused number place) old = old

pub record LoadTold (answer : Answer LoadAnswer) (head : List ℕ) (wedge : ℤ) (steps : List ℕ) (place number : ℕ) (head' : List ℕ) (wedge' : ℤ) (steps' : List ℕ) (place' : ℕ)
    : Type 0 where
  pub told : Told (refusal_in answer) place number place'
  pub head_is : head' ≡ head_numbers answer head
  pub wedge_is : wedge' ≡ wedge_number answer wedge
  pub steps_are : steps' ≡ steps_in answer steps

-- of a coefficient film the head alone
abbrev pub head_in : Answer Head → List ℕ → List ℕ
head_in (answered h) old = h.rows ∷ h.columns ∷ h.ceiling ∷ []
head_in (refused number place) old = old

pub record HeadTold (answer : Answer Head) (head : List ℕ) (place number : ℕ) (head' : List ℕ) (place' : ℕ) : Type 0 where
  pub told : Told (refusal_in answer) place number place'
  pub head_is : head' ≡ head_in answer head
