-- Document 01, "A run".
use Rattle.std.specs.Prelude.{Bool, true, false, List, ℕ, zero, suc, ◌+◌, ◌-◌, ◌/◌, ◌%◌, eqb}
use Rattle.monotone.specs.Ordering.{split_order}
use Rattle.monotone.specs.Sweep as theory
use Rattle.model.specs.Refusals.{Check, pass}
use Rattle.model.specs.Film.{Film, size_of, rule}
use Rattle.model.specs.Checks.{field_check, order_check}
use Rattle.model.specs.Result.{Answer, Result, call_by}
use Rattle.model.specs.Proposal.{ProposalAnswer, propose, line_start}
use Rattle.model.specs.Estimate.{estimate}
use Rattle.model.specs.declared.Counts.{Counts}
use Rattle.model.specs.declared.Ran.{Ran}
use Rattle.model.specs.declared.Ran.TheVariants as answers

-- r + c is even, which it is with rows and columns counted from 0 too
abbrev pub even_cell : ℕ → ℕ → Bool
even_cell columns i = eqb ((i / columns + i % columns) % 2) 0

-- the cell at a place of order 0, 1 or 2 of n cells: by index, by falling index, even cells and then odd ones
unfoldable pub order_of : ℕ → ℕ → ℕ → ℕ → ℕ
order_of columns n zero k = k
order_of columns n (suc zero) k = n - 1 - k
order_of columns n (suc (suc o)) k = split_order (even_cell columns) n k

abbrev pub ordering : Film → ℕ → ℕ → ℕ
ordering f order = order_of f.columns (size_of f) order

-- a field, and how many cells proposals have raised in it so far
pub record Readied : Type 0 where
  pub field : List ℕ
  pub accepted : ℕ

-- how many cells a proposal raised, and the field that it leaves with these counted in
abbrev pub cells_of : ProposalAnswer → ℕ
cells_of (ProposalAnswer.accepted cells) = cells
cells_of ProposalAnswer.rejected = 0

abbrev pub tallied : Result ProposalAnswer → ℕ → Readied
tallied r before = record { field = r.lent; accepted = before + cells_of r.answer }

-- the program's own proposal for a line, worked from the field as it then is
unfoldable pub propose_own : Film → ℕ → Readied → Readied
propose_own f line s = tallied (propose f (line_start f line) (estimate f s.field (line_start f line)) s.field) s.accepted

-- lines 1 to n in turn
unfoldable pub propose_lines : Film → ℕ → Readied → Readied
propose_lines f zero s = s
propose_lines f (suc n) s = propose_own f (suc n) (propose_lines f n s)

-- the field at the first relaxation: a budget of 0 makes no proposals
unfoldable pub readied : Film → ℕ → Bool → List ℕ → Readied
readied f zero on p = record { field = p; accepted = 0 }
readied f (suc budget) true p = propose_lines f f.rows (record { field = p; accepted = 0 })
readied f (suc budget) false p = record { field = p; accepted = 0 }

-- what a run answers
pub data RunAnswer : Type 0 where
  done : Counts → RunAnswer
  stopped : Counts → RunAnswer
  over : ℕ → Counts → RunAnswer

abbrev pub ran_of : Ran → RunAnswer
ran_of (answers.Done c) = done c
ran_of (answers.Stopped c) = stopped c
ran_of (answers.Over cell c) = over cell c

-- what it has counted: relaxations, raises that they made, and cells raised by proposals
abbrev pub counted_in : RunAnswer → Counts
counted_in (done c) = c
counted_in (stopped c) = c
counted_in (over i c) = c

abbrev pub counts_of : theory.State → ℕ → Counts
counts_of s accepted = record { visits = s.visits; raises = s.raises; accepted = accepted }

abbrev pub end_of : theory.Ending → Counts → RunAnswer
end_of theory.done c = done c
end_of (theory.over i) c = over i c
end_of theory.stopped c = stopped c

abbrev pub ended : theory.Swept → ℕ → Result RunAnswer
ended r accepted = record { answer = end_of r.answer (counts_of r.last accepted); lent = r.last.field }

-- relaxations by the order from the readied field
unfoldable pub run : Film → ℕ → ℕ → Bool → List ℕ → Result RunAnswer
run f budget order on p =
    ended (theory.sweep (rule f) (ordering f order) budget (theory.begin (readied f budget on p).field))
    (readied f budget on p).accepted

-- the tests of a run
abbrev pub run_check : Film → List ℕ → ℕ → Check
run_check f p order = field_check f p true (order_check order) pass

-- the call that makes a run on the field p
abbrev pub run_call : Film → ℕ → ℕ → Bool → List ℕ → Result (Answer RunAnswer)
run_call f budget order on p = call_by (run_check f p order) (run f budget order on p) p
