-- `refusals::first::first_cell` meets its contract: one search (`Searched`), by any test that `bad` decides, comes row by row to the cell's index.
use Rattle.std.proofs.Common.{◌≡◌, Bool, true, false, ℕ, ◌+◌, ◌-◌, ◌*◌, ◌<◌, arith}
use lib.Arith.{digits_lt}
use Rattle.model.specs.Refusals.{fail, fail_first}
use Rattle.refusals.proofs.Search.{Searched, search_begins, search_next, search_fails}
use Rattle.refusals.proofs.first.first_cell.Goals as goal

begins : (test : ℕ → Bool) (R C : ℕ) → Searched test (R * C) (0 * C)
begins test R C = let none : 0 * C ≡ 0 = omega arith in rw none (search_begins test (R * C))

-- at the next cell the test answers b: the search goes on, or fails there
module _ {test : ℕ → Bool} {R C row column : ℕ} (s : Searched test (R * C) (row * C + column)) (h : row < R) (k : column < C) {b : Bool}
    (answer : b ≡ test ((row + 1 - 1) * C + (column + 1 - 1))) where
  low : row * C + column < R * C
  low = digits_lt {q = row} {m = R} {r = column} {c = C} h k

  here : b ≡ test (row * C + column)
  here = let r : row + 1 - 1 ≡ row = omega arith in let c : column + 1 - 1 ≡ column = omega arith in rw (r, c) at answer

  goes_on : b ≡ false → Searched test (R * C) (row * C + (column + 1))
  goes_on e = let next : row * C + (column + 1) ≡ row * C + column + 1 = omega arith in rw next (search_next s low here e)

  fails : (number : ℕ) → b ≡ true → fail number (row * C + column) ≡ fail_first test (R * C) number (λ i. i)
  fails number e = search_fails s low here number (λ i. i) e

pub loop-row-init : goal.loop-row-init
loop-row-init g c test d = begins test c.args.head.rows c.args.head.columns

pub returns-then-bad : goal.returns-then-bad
returns-then-bad g c test d =
    fails (c.loop-column.invariant test d) c.loop-row-test.true c.loop-column-test.true (d _ _ (omega arith) _ c.bad.ensures) _ c.if-bad.true

pub loop-column-preserved : goal.loop-column-preserved
loop-column-preserved g c test d =
    goes_on (c.loop-column.invariant test d) c.loop-row-test.true c.loop-column-test.true (d _ _ (omega arith) _ c.bad.ensures) c.if-bad.false
