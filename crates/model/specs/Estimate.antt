-- Document 01, "A line offer", second paragraph: the program's own proposal for a line, worked in binary64 by eliminating along each
-- chain of active cells. Each operation is rounded once, in the order of the text. No claim on a field rests on these numbers.
use Rattle.std.specs.Prelude.{Bool, true, false, cond, ◌&&◌, ◌||◌, List, ℕ, zero, suc, ◌+◌, ◌-◌, ◌*◌, ◌/◌, ltb, ℤ, pos, neg_ℤ, ◌+ℤ◌, get_or, Float}
use Rattle.std.specs.Float.{nan, inf, fin, binary64}
use Rattle.std.specs.Float.Ieee.{up, down, add, sub, mul, div, lt, le, of_int}
use Rattle.monotone.specs.Links.{pull}
use Rattle.model.specs.Limits.{estimate_limit}
use Rattle.model.specs.Lists.{tabulate}
use Rattle.model.specs.Integers.{negative}
use Rattle.model.specs.Film.{Film, across, diagonal_at, right_at, source_at, weight_at, slack}
use Rattle.model.specs.Result.{Answer, Result, written, call_by}
use Rattle.model.specs.Proposal.{line_start, row_check}
use Rattle.model.specs.Margin.{margin}

abbrev pub float_of : ℕ → Float
float_of n = of_int binary64 (pos n)

abbrev pub active : Film → List ℕ → ℕ → Bool
active f p i = ltb 0 (get_or p i 0) || negative (slack f p i)

-- b, the exact −source + link × pressure over the rows below and above
abbrev pub right_side : Film → List ℕ → ℕ → ℤ
right_side f p i = neg_ℤ (source_at f i) +ℤ pos (pull (across f i) (λ j. get_or p j 0))

-- what an elimination step yields
pub data Elimination : Type 0 where
  idle : Elimination
  pivot : Float → Float → Elimination
  broken : Elimination

-- broken, where g > 0 fails
abbrev pub pivot_if : Float → Float → Elimination
pivot_if g h = cond (lt (float_of 0) g) (pivot g h) broken

-- whether the cell is active, m, b, k, and what the cell before it yielded
unfoldable pub eliminate : Bool → Float → Float → Float → Elimination → Elimination
eliminate true m b k idle = pivot_if m b
eliminate true m b k (pivot g h) =
    pivot_if (sub binary64 m (mul binary64 k (div binary64 k g))) (add binary64 b (mul binary64 k (div binary64 h g)))
eliminate true m b k broken = broken
eliminate false m b k idle = idle
eliminate false m b k (pivot g h) = idle
eliminate false m b k broken = broken

-- backwards: the solution in a cell, `none` where it is not active
pub data Solution : Type 0 where
  none : Solution
  value : Float → Solution

-- what the elimination left, the link to the next cell, and the next cell's solution
unfoldable pub substitute : Elimination → Float → Solution → Solution
substitute idle link next = none
substitute broken link next = none
substitute (pivot g h) link none = value (div binary64 h g)
substitute (pivot g h) link (value p) = value (div binary64 (add binary64 h (mul binary64 link p)) g)

-- the greatest whole number not above a float that is at least 0
unfoldable pub floor_of : Float → ℕ
floor_of nan = 0
floor_of (inf s) = 0
floor_of (fin s m e) = m * up e / down e

unfoldable pub whole_part : Solution → ℕ
whole_part none = 0
whole_part (value x) = cond (le (float_of 0) x && le x (float_of estimate_limit)) (floor_of x) 0

abbrev pub is_broken : Elimination → Bool
is_broken idle = false
is_broken (pivot g h) = false
is_broken broken = true

module _ (f : Film) (p : List ℕ) (start : ℕ) where
  -- what the first n cells of the row have yielded, last
  unfoldable pub eliminated : ℕ → Elimination
  eliminated zero = idle
  eliminated (suc j) =
      eliminate (active f p (start + j)) (float_of (diagonal_at f (start + j))) (of_int binary64 (right_side f p (start + j)))
      (float_of (right_at f (start + j - 1)))
      (eliminated j)

  -- the solution in the n-th cell of the row from its end
  unfoldable pub solved : ℕ → Solution
  solved zero = none
  solved (suc n) = substitute (eliminated (f.columns - n)) (float_of (right_at f (start + (f.columns - suc n)))) (solved n)

  -- what is proposed in column j, counted from 0
  abbrev pub estimate_at : ℕ → ℕ
  estimate_at j =
      cond (is_broken (eliminated f.columns)) 0 (whole_part (solved (f.columns - j)) - margin f * weight_at f (start + j))

  unfoldable pub estimate : List ℕ
  estimate = tabulate f.columns estimate_at

-- the call that writes the estimate of a line into a slice of C numbers
abbrev pub estimate_call : Film → ℕ → List ℕ → List ℕ → Result (Answer (Unit {0}))
estimate_call f line p out = call_by (row_check f p out line) (written (estimate f p (line_start f line))) out
