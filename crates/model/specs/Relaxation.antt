-- Document 01, "A visit".
use Rattle.std.specs.Prelude.{List, ℕ, ◌+◌, true, ℤ, get_or, set}
use Rattle.monotone.specs.Linear.{required_of}
use Rattle.monotone.specs.Sweep as theory
use Rattle.model.specs.Integers.{positive_part, negative_part}
use Rattle.model.specs.Refusals.{Check, pass}
use Rattle.model.specs.Film.{Film, diagonal_at, source_at, pull_of, slack}
use Rattle.model.specs.Checks.{field_check, cell_check}
use Rattle.model.specs.Result.{Answer, answer_by, Result, call_by}
use Rattle.model.specs.declared.Relaxed.{Relaxed}
use Rattle.model.specs.declared.Relaxed.TheVariants as relaxed

-- document 01: the need of a cell, the least whole number, not below 0, that makes its slack at least 0, the others fixed
abbrev pub required_for : ℕ → ℕ → ℤ → ℕ
required_for diagonal pull source = required_of diagonal (positive_part source) (pull + negative_part source)

abbrev pub required : Film → List ℕ → ℕ → ℕ
required f p i = required_for (diagonal_at f i) (pull_of f p i) (source_at f i)

-- what a relaxation answers
pub data RelaxAnswer : Type 0 where
  quiet : RelaxAnswer
  raised : ℕ → RelaxAnswer
  over : ℕ → RelaxAnswer

abbrev pub relaxed_of : Relaxed → RelaxAnswer
relaxed_of relaxed.Quiet = quiet
relaxed_of (relaxed.Raised pressure) = raised pressure
relaxed_of (relaxed.Over cell) = over cell

-- a relaxation of cell i of the field p, by what it finds
abbrev pub relaxed_to : theory.Relaxation → ℕ → List ℕ → ℕ → Result RelaxAnswer
relaxed_to theory.quiet required p i = record { answer = quiet; lent = p }
relaxed_to theory.raise required p i = record { answer = raised required; lent = set p i required }
relaxed_to theory.exceed required p i = record { answer = over i; lent = p }

abbrev pub relax : Film → List ℕ → ℕ → Result RelaxAnswer
relax f p i = relaxed_to (theory.relax f.ceiling (required f p i) (get_or p i 0)) (required f p i) p i

-- the tests of the calls that take a film, a field and a cell
abbrev pub point_check : Film → List ℕ → ℕ → Check
point_check f p i = field_check f p true pass (cell_check f i)

-- the call that relaxes cell i of the field p
abbrev pub relax_call : Film → List ℕ → ℕ → Result (Answer RelaxAnswer)
relax_call f p i = call_by (point_check f p i) (relax f p i) p

-- the call that tells the slack of cell i
abbrev pub slack_call : Film → List ℕ → ℕ → Answer ℤ
slack_call f p i = answer_by (point_check f p i) (slack f p i)
