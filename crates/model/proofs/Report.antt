-- The report: where its cells' lines stand, and that no report is longer than the longest.
use mathlib.Core.Path.{◌≡◌, refl, sym, subst₂}
use mathlib.Core.Bool.{Bool, true, false}
use mathlib.Core.List.{List, ◌++◌}
use Prim.Native.Nat.{ℕ, zero, suc, ◌+◌, ◌-◌, ◌*◌, ◌/◌, ◌%◌, ◌≤◌, ◌<◌}
use native.Mathlib.Nat.{le_refl, le_antisymm, le_of_eq, le_trans, mul-le-mul, mul-pos, div-lt_iff_lt-mul, mod-lt}
use native.Mathlib.Decide.{dec_lt}
use native.Mathlib.Omega.{arith}
use lib.Dec.{ltb}
use lib.ListN.{length, get_or, replicate, length-append}
use Rattle.monotone.specs.Links.{pull}
use Rattle.monotone.specs.Rule.{Bounded}
use Rattle.monotone.proofs.History.{zeros_bounded}
use Rattle.model.specs.Limits.{ceiling_limit, diagonal_limit, link_limit}
use Rattle.model.specs.Integers.{positive_part, negative_part}
use Rattle.model.specs.Film.{Film, size_of, row_of, column_of, right_at, up_at, diagonal_at, source_at, link_if, beside, across, neighbours, pull_of, slack, rule}
use Rattle.model.specs.Accepted.{Sized, Limited, Accepted}
use Rattle.model.specs.Result.{Answer, answered, refused}
use Rattle.model.specs.Run.{RunAnswer, done, stopped, over, counted_in}
use Rattle.model.specs.File.{Bytes}
use Rattle.model.specs.EitherFile.{read_either}
use Rattle.model.specs.Report.{decimal, signed, line, film_word, ceiling_word, done_word, stopped_word, over_word, refused_word, peak_word, place_text, peak_cell, cell_line, cell_lines, peak_line, field_text, answer_line, refused_line, answer_text, head_line, report_budget, report_run, film_report, report_by, report_of}
use Rattle.model.specs.ReportCall.{longest_report}
use Rattle.model.specs.declared.Counts.{Counts}
use Rattle.model.proofs.Integers.{sub_source, positive_low, negative_low}
use Rattle.model.proofs.Lists.{get_d_low}
use Rattle.model.proofs.Sides.{pull_append}
use Rattle.model.proofs.Run.{run_budget, run_raises, run_good}
use Rattle.model.proofs.EitherFile.{either_accepted}
use Rattle.model.proofs.Peak.{peak_is}
use Rattle.model.proofs.Digits.{width, width_most, decimal_most, decimal_length, decimal_width, signed_length, two_words, three_words, five_words, placed_words, word_placed}

-- ---- the cells' lines, one after another

module _ (f : Film) (p : List ℕ) where
  -- one cell more
  lines_more : (n : ℕ) → length (cell_lines f p (suc n)) ≡ length (cell_lines f p n) + length (cell_line f p n)
  unfolding cell_lines
  lines_more n = length-append (cell_lines f p n) (cell_line f p n)

  -- fewer cells take no more room
  pub lines_room : {i n : ℕ} → i < n → length (cell_lines f p i) + length (cell_line f p i) ≤ length (cell_lines f p n)
  lines_room {n = zero} h = absurd (omega arith)
  lines_room {i} {n = suc n} h =
      elim (dec_lt i n) [
        | yes l ↦ let r = lines_room {i = i} {n = n} l in omega (arith, lines_more n)
        | no l ↦ rw (le_antisymm {n = i} {m = n} (omega arith) (omega arith)) (le_of_eq (sym (lines_more n)))
      ]

-- ---- room for the cells' lines, over plain numbers

-- a cell's line: row, column, 8 digits, 16 and a sign, 3 spaces, and the line's end
abbrev cell_room : ℕ → ℕ → ℕ
cell_room columns i = 29 + width (i / columns + 1) + width (i % columns + 1)

-- the first n cells' lines
room_of : ℕ → ℕ → ℕ
room_of columns zero = 0
room_of columns (suc n) = room_of columns n + cell_room columns n

-- no cell's line is longer than 33 bytes
room_most : (columns n : ℕ) → room_of columns n ≤ n * 33
unfolding room_of
room_most columns zero = le_refl 0
room_most columns (suc n) = omega (arith, room_most columns n, width_most (n / columns + 1), width_most (n % columns + 1))

-- 32 rows and columns
room_largest : room_of 32 1024 ≡ 33216
unfolding room_of
room_largest = refl

-- that is the longest: a grid with fewer rows or columns has at most 992 cells
room_low : (rows columns : ℕ) → rows ≤ 32 → columns ≤ 32 → room_of columns (rows * columns) ≤ 33216
room_low rows columns h k =
    elim (dec_lt rows 32) [
      | yes l ↦ few (le_trans (mul-le-mul {n₂ = 31} {m₂ = 32} (omega arith) k) (omega arith))
      | no l ↦ elim (dec_lt columns 32) [
        | yes m ↦ few (le_trans (mul-le-mul {n₂ = 32} {m₂ = 31} h (omega arith)) (omega arith))
        | no m ↦ largest (omega arith) (omega arith)
      ]
    ]
  where
    few : rows * columns ≤ 992 → room_of columns (rows * columns) ≤ 33216
    few l = omega (arith, room_most columns (rows * columns))

    largest : 32 ≡ rows → 32 ≡ columns → room_of columns (rows * columns) ≤ 33216
    largest r c = subst₂ (λ (r c : ℕ). room_of c (r * c) ≤ 33216) r c (le_of_eq room_largest)

-- ---- the lines of a film within its limits, for a field within the ceiling

-- what a neighbour adds, if there is one
pull_if : (b : Bool) (cell link most : ℕ) (x : ℕ → ℕ) → link * x cell ≤ most → pull (link_if b cell link) x ≤ most
pull_if true cell link most x h = omega arith
pull_if false cell link most x h = omega arith

module _ (f : Film) (l : Limited f) (p : List ℕ) (B : Bounded (rule f) p) where
  -- a pressure
  pressure_low : (i : ℕ) → get_or p i 0 ≤ ceiling_limit
  pressure_low i = omega (arith, B.low i, l.sized.ceiling_low)

  -- link × pressure
  product_low : (link i : ℕ) → link ≤ link_limit → link * get_or p i 0 ≤ link_limit * ceiling_limit
  product_low link i h = mul-le-mul h (pressure_low i)

  -- links, past the last cell too
  right_low : (i : ℕ) → right_at f i ≤ link_limit
  right_low = get_d_low f.rights (size_of f) link_limit l.sized.rights_len (λ i h. (l.cell i h).right_low)

  up_low : (i : ℕ) → up_at f i ≤ link_limit
  up_low = get_d_low f.ups (size_of f) link_limit l.sized.ups_len (λ i h. (l.cell i h).up_low)

  -- what two neighbours pull; those in the cell's row, those in the rows before and after it, and all
  two_low : (a b : Bool) (i j m n : ℕ) → m ≤ link_limit → n ≤ link_limit
      → pull (link_if a i m ++ link_if b j n) (λ k. get_or p k 0) ≤ 2 * (link_limit * ceiling_limit)
  two_low a b i j m n h k =
      let at : ℕ → ℕ = λ k. get_or p k 0 in
      omega (
        arith,
        pull_append (link_if a i m) (link_if b j n) at,
        pull_if a i m (link_limit * ceiling_limit) at (product_low m i h),
        pull_if b j n (link_limit * ceiling_limit) at (product_low n j k),
      )

  beside_low : (i : ℕ) → pull (beside f i) (λ k. get_or p k 0) ≤ 2 * (link_limit * ceiling_limit)
  unfolding beside
  beside_low i =
      two_low (ltb 0 (column_of f i)) (ltb (column_of f i + 1) f.columns) (i - 1) (i + 1) _ _ (right_low (i - 1)) (right_low i)

  across_low : (i : ℕ) → pull (across f i) (λ k. get_or p k 0) ≤ 2 * (link_limit * ceiling_limit)
  unfolding across
  across_low i =
      two_low (ltb 0 (row_of f i)) (ltb (row_of f i + 1) f.rows) (i - f.columns) (i + f.columns) _ _ (up_low (i - f.columns)) (up_low i)

  pull_low : (i : ℕ) → pull_of f p i ≤ 4 * (link_limit * ceiling_limit)
  unfolding neighbours
  pull_low i = omega (arith, pull_append (beside f i) (across f i) (λ k. get_or p k 0), beside_low i, across_low i)

  module _ (i : ℕ) (h : i < size_of f) where
    -- a slack has at most 16 digits and a sign
    slack_length : length (signed (slack f p i)) ≤ 17
    slack_length =
        let c = l.cell i h in
        let d : diagonal_at f i * get_or p i 0 ≤ diagonal_limit * ceiling_limit = mul-le-mul c.diagonal_low (pressure_low i) in
        rw (sub_source (diagonal_at f i * get_or p i 0) (pull_of f p i) (source_at f i))
        (signed_length (diagonal_at f i * get_or p i 0 + positive_part (source_at f i)) (pull_of f p i + negative_part (source_at f i))
        (omega (arith, positive_low (source_at f i), c.source_low)) (omega (arith, pull_low i, negative_low (source_at f i), c.source_low)))

    -- a pressure has at most 8 digits, row and column at most 2
    pressure_length : length (decimal (get_or p i 0)) ≤ 8
    pressure_length = decimal_length 7 (get_or p i 0) (omega (arith, pressure_low i))

    row_length : length (decimal (row_of f i + 1)) ≤ width (row_of f i + 1)
    row_length =
        let r : row_of f i < f.rows = (div-lt_iff_lt-mul l.sized.columns_some).1 h in
        decimal_width (row_of f i + 1) (omega (arith, l.sized.rows_low))

    column_length : length (decimal (column_of f i + 1)) ≤ width (column_of f i + 1)
    column_length =
        let c : column_of f i < f.columns = mod-lt i l.sized.columns_some in
        decimal_width (column_of f i + 1) (omega (arith, l.sized.columns_low))

    -- the cell's line
    cell_length : length (cell_line f p i) ≤ cell_room f.columns i
    cell_length =
        omega (
          arith,
          placed_words (decimal (row_of f i + 1)) (decimal (column_of f i + 1)) (decimal (get_or p i 0)) (signed (slack f p i)),
          row_length,
          column_length,
          pressure_length,
          slack_length,
        )

  -- the lines of the first n cells
  lines_length : (n : ℕ) → n ≤ size_of f → length (cell_lines f p n) ≤ room_of f.columns n
  unfolding cell_lines room_of
  lines_length zero h = le_refl 0
  lines_length (suc n) h = omega (arith, lines_more f p n, lines_length n (omega arith), cell_length n h)

  -- the peak's line
  peak_length : length (peak_line f p) ≤ 20
  peak_length =
      let i = peak_cell f p in
      let h = (peak_is f.columns p (size_of f) (mul-pos l.sized.rows_some l.sized.columns_some)).inside in
      omega (
        arith,
        word_placed peak_word (decimal (row_of f i + 1)) (decimal (column_of f i + 1)) (decimal (get_or p i 0)),
        row_length i h,
        width_most (row_of f i + 1),
        column_length i h,
        width_most (column_of f i + 1),
        pressure_length i h,
      )

  -- all lines after Done and Stopped
  field_length : length (field_text f p) ≤ 33236
  field_length =
      omega (
        arith,
        length-append (cell_lines f p (size_of f)) (peak_line f p),
        lines_length (size_of f) (le_refl _),
        room_low f.rows f.columns l.sized.rows_low l.sized.columns_low,
        peak_length,
      )

-- ---- the whole report

-- the line of an answer's counters
answer_length : (word : List ℕ) (c : Counts) → length word ≤ 7 → c.visits ≤ report_budget → c.raises ≤ c.visits
    → length (answer_line word c) ≤ 24
answer_length word c w h k =
    omega (
      arith,
      three_words word (decimal c.visits) (decimal c.raises),
      decimal_length 6 c.visits (omega arith),
      decimal_length 6 c.raises (omega arith),
    )

-- a refusal, whatever its number and place
refused_length : (number place : ℕ) → length (refused_line number place) ≤ 50
refused_length number place =
    omega (arith, three_words refused_word (decimal number) (decimal place), decimal_most number, decimal_most place)

-- the first line
head_length : (f : Film) → Sized f → length (head_line f) ≤ 28
head_length f s =
    omega (
      arith,
      five_words film_word (decimal f.rows) (decimal f.columns) ceiling_word (decimal f.ceiling),
      decimal_length 1 f.rows (omega (arith, s.rows_low)),
      decimal_length 1 f.columns (omega (arith, s.columns_low)),
      decimal_length 7 f.ceiling (omega (arith, s.ceiling_low)),
    )

-- what follows it, by the run's answer
text_length : (f : Film) (a : RunAnswer) (p : List ℕ) → length (field_text f p) ≤ 33236
    → (counted_in a).visits ≤ report_budget → (counted_in a).raises ≤ (counted_in a).visits → length (answer_text f a p) ≤ 33260
text_length f (done c) p t h k = omega (arith, length-append (answer_line done_word c) (field_text f p), answer_length done_word c (omega arith) h k)
text_length f (stopped c) p t h k =
    omega (arith, length-append (answer_line stopped_word c) (field_text f p), answer_length stopped_word c (omega arith) h k)
text_length f (over i c) p t h k =
    omega (
      arith,
      length-append (answer_line over_word c) (line (place_text f i)),
      answer_length over_word c (omega arith) h k,
      two_words (decimal (row_of f i + 1)) (decimal (column_of f i + 1)),
      decimal_most (row_of f i + 1),
      decimal_most (column_of f i + 1),
    )

-- an accepted film's report
film_fits_lem : (f : Film) → Accepted f → length (film_report f) ≤ longest_report
film_fits_lem f A =
    let zeros : List ℕ = replicate (size_of f) 0 in
    let good = run_good f A report_budget 0 false zeros (zeros_bounded (rule f)) in
    omega (
      arith,
      length-append (head_line f) (answer_text f (report_run f).answer (report_run f).lent),
      head_length f A.limited.sized,
      text_length f (report_run f).answer (report_run f).lent (field_length f A.limited (report_run f).lent good.rises.bounded)
          (run_budget f report_budget 0 false zeros) (run_raises f report_budget 0 false zeros),
    )

-- no report is longer than the longest
pub report_fits : (bytes : List ℕ) → Bytes bytes → length (report_of bytes) ≤ longest_report
report_fits bytes B = go (read_either bytes) refl
  where
    go : (r : Answer Film) → read_either bytes ≡ r → length (report_by r) ≤ longest_report
    go (answered f) e = film_fits_lem f (either_accepted bytes f B e)
    go (refused number place) e = omega (arith, refused_length number place)
