-- Document 01, "A line offer", first paragraph: the exact test of a line proposal.
use Rattle.std.specs.Prelude.{◌≡◌, Bool, true, not, cond, ◌&&◌, ◌||◌, List, ℕ, ◌+◌, ◌-◌, ◌*◌, ◌≤◌, ◌<◌, max, leb, ltb, eqb, length, get_or, Option, Some, None}
use Rattle.model.specs.Lists.{tabulate, count_below, all_below}
use Rattle.model.specs.Integers.{at_most_zero}
use Rattle.model.specs.Refusals.{Check, pass}
use Rattle.model.specs.Film.{Film, size_of, slack}
use Rattle.model.specs.Checks.{field_check, line_check}
use Rattle.model.specs.Result.{Answer, Result, call_by}

-- the first cell of a line, which is counted from 1
abbrev pub line_start : Film → ℕ → ℕ
line_start f line = (line - 1) * f.columns

-- the larger of pressure and proposal in each cell of the row that begins at `start`
abbrev pub raised_at : ℕ → List ℕ → List ℕ → ℕ → ℕ
raised_at start proposal p i = max (get_or p i 0) (cond (leb start i) (get_or proposal (i - start) 0) 0)

unfoldable pub raised_by : Film → ℕ → List ℕ → List ℕ → List ℕ
raised_by f start proposal p = tabulate (size_of f) (raised_at start proposal p)

-- the new field q is above p in cell i
abbrev pub rises : List ℕ → List ℕ → ℕ → Bool
rises p q i = ltb (get_or p i 0) (get_or q i 0)

-- how many cells of the row rise
unfoldable pub rise_count : Film → ℕ → List ℕ → List ℕ → ℕ
rise_count f start p q = count_below (λ j. rises p q (start + j)) f.columns

-- no cell of the row exceeds the ceiling
unfoldable pub within_ceiling : Film → ℕ → List ℕ → Bool
within_ceiling f start q = all_below (λ j. leb (get_or q (start + j) 0) f.ceiling) f.columns

-- every cell of the row that rises has a slack of at most 0 in the new field
unfoldable pub tight : Film → ℕ → List ℕ → List ℕ → Bool
tight f start p q = all_below (λ j. not (rises p q (start + j)) || at_most_zero (slack f q (start + j))) f.columns

abbrev pub accepts : Film → ℕ → List ℕ → List ℕ → Bool
accepts f start p q = ltb 0 (rise_count f start p q) && within_ceiling f start q && tight f start p q

-- document 01's condition in its words, which the test is (`accept_condition`): at least one cell of the row rises, none exceeds the ceiling,
-- and every cell that rises has a slack of at most 0 in the new field
pub record Acceptable (f : Film) (start : ℕ) (p q : List ℕ) : Type 0 where
  pub some : (j : ℕ) × (j < f.columns) × (get_or p (start + j) 0 < get_or q (start + j) 0)
  pub low : (j : ℕ) → j < f.columns → get_or q (start + j) 0 ≤ f.ceiling
  pub tight : (j : ℕ) → j < f.columns → get_or p (start + j) 0 < get_or q (start + j) 0 → at_most_zero (slack f q (start + j)) ≡ true

-- document 01: Taken with the number of cells raised, or Declined
pub data ProposalAnswer : Type 0 where
  accepted : ℕ → ProposalAnswer
  rejected : ProposalAnswer

abbrev pub proposed_of : Option ℕ → ProposalAnswer
proposed_of (Some cells) = accepted cells
proposed_of None = rejected

-- the new field q in place of p, or p
abbrev pub decided : Bool → Film → ℕ → List ℕ → List ℕ → Result ProposalAnswer
decided taken f start p q =
    cond taken (record { answer = accepted (rise_count f start p q); lent = q }) (record { answer = rejected; lent = p })

-- a proposal for the row that begins at `start`
unfoldable pub propose : Film → ℕ → List ℕ → List ℕ → Result ProposalAnswer
propose f start proposal p = decided (accepts f start p (raised_by f start proposal p)) f start p (raised_by f start proposal p)

-- the tests of the calls that take a film, a field, and a slice of numbers for a line
abbrev pub row_check : Film → List ℕ → List ℕ → ℕ → Check
row_check f p numbers line = field_check f p (eqb (length numbers) f.columns) pass (line_check f line)

-- the call that proposes pressures for a line of the field p
abbrev pub propose_call : Film → ℕ → List ℕ → List ℕ → Result (Answer ProposalAnswer)
propose_call f line proposal p = call_by (row_check f p proposal line) (propose f (line_start f line) proposal p) p
