-- Document 01, "The report": the text's bytes, from the file's bytes.
use Rattle.std.specs.Prelude.{◌≡◌, Bool, false, cond, ◌&&◌, ◌||◌, List, [], ◌∷◌, ◌++◌, ℕ, zero, suc, ◌+◌, ◌/◌, ◌%◌, ◌≤◌, ◌<◌, ltb, eqb, ℤ, pos, negsuc, get_or, replicate}
use Rattle.model.specs.Film.{Film, size_of, row_of, column_of, slack}
use Rattle.model.specs.Result.{Answer, answered, refused, Result}
use Rattle.model.specs.Run.{RunAnswer, done, stopped, over, run}
use Rattle.model.specs.EitherFile.{read_either}
use Rattle.model.specs.declared.Counts.{Counts}

-- a number in decimal, with at most as many digits as said
unfoldable pub decimal_digits : ℕ → ℕ → List ℕ
decimal_digits zero n = []
decimal_digits (suc most) n = cond (ltb n 10) ((48 + n) ∷ []) (decimal_digits most (n / 10) ++ (48 + n % 10) ∷ [])

-- 20 digits hold every number of 64 bits
abbrev pub decimal : ℕ → List ℕ
decimal n = decimal_digits 20 n

abbrev pub signed : ℤ → List ℕ
signed (pos n) = decimal n
signed (negsuc n) = 45 ∷ decimal (suc n)

-- what stands on a line, one space between; each line ends with a line feed
abbrev pub ◌␣◌ : List ℕ → List ℕ → List ℕ
a ␣ b = a ++ (32 ∷ []) ++ b

abbrev pub line : List ℕ → List ℕ
line words = words ++ 10 ∷ []

infixr 45 ◌␣◌
-- FILM, CEILING, DONE, STOPPED, OVER, PEAK, REFUSED
abbrev pub film_word : List ℕ
film_word = 70 ∷ 73 ∷ 76 ∷ 77 ∷ []

abbrev pub ceiling_word : List ℕ
ceiling_word = 67 ∷ 69 ∷ 73 ∷ 76 ∷ 73 ∷ 78 ∷ 71 ∷ []

abbrev pub done_word : List ℕ
done_word = 68 ∷ 79 ∷ 78 ∷ 69 ∷ []

abbrev pub stopped_word : List ℕ
stopped_word = 83 ∷ 84 ∷ 79 ∷ 80 ∷ 80 ∷ 69 ∷ 68 ∷ []

abbrev pub over_word : List ℕ
over_word = 79 ∷ 86 ∷ 69 ∷ 82 ∷ []

abbrev pub peak_word : List ℕ
peak_word = 80 ∷ 69 ∷ 65 ∷ 75 ∷ []

abbrev pub refused_word : List ℕ
refused_word = 82 ∷ 69 ∷ 70 ∷ 85 ∷ 83 ∷ 69 ∷ 68 ∷ []

-- r and c of a cell, counted from 1
abbrev pub place_text : Film → ℕ → List ℕ
place_text f i = decimal (row_of f i + 1) ␣ decimal (column_of f i + 1)

-- whether a cell takes the peak's place from one before it, of pressure top in column edge: by a greater pressure, or by an equal one in
-- a greater column
abbrev pub outranks : ℕ → ℕ → ℕ → ℕ → Bool
outranks top edge pressure column = ltb top pressure || (eqb top pressure && ltb edge column)

-- the peak of the first n cells, on a grid of so many columns
module _ (columns : ℕ) (p : List ℕ) where
  abbrev pub higher : ℕ → ℕ → ℕ
  higher best i = cond (outranks (get_or p best 0) (best % columns) (get_or p i 0) (i % columns)) i best

  unfoldable pub peak_of : ℕ → ℕ
  peak_of zero = 0
  peak_of (suc n) = higher (peak_of n) n

-- document 02's peak (W3) in its words, which that is (`peak_is`): one of n cells, the greatest pressure, of equals the greatest column,
-- of those the lowest row
pub record Peak (columns : ℕ) (p : List ℕ) (n top : ℕ) : Type 0 where
  pub inside : top < n
  pub greatest : (i : ℕ) → i < n → get_or p i 0 ≤ get_or p top 0
  pub trailing : (i : ℕ) → i < n → get_or p i 0 ≡ get_or p top 0 → i % columns ≤ top % columns
  pub lowest : (i : ℕ) → i < n → get_or p i 0 ≡ get_or p top 0 → i % columns ≡ top % columns → top / columns ≤ i / columns

module _ (f : Film) (p : List ℕ) where
  abbrev pub cell_line : ℕ → List ℕ
  cell_line i = line (place_text f i ␣ decimal (get_or p i 0) ␣ signed (slack f p i))

  -- the first n cells
  unfoldable pub cell_lines : ℕ → List ℕ
  cell_lines zero = []
  cell_lines (suc n) = cell_lines n ++ cell_line n

  abbrev pub peak_cell : ℕ
  peak_cell = peak_of f.columns p (size_of f)

  abbrev pub peak_line : List ℕ
  peak_line = line (peak_word ␣ place_text f peak_cell ␣ decimal (get_or p peak_cell 0))

  -- after Done and Stopped
  abbrev pub field_text : List ℕ
  field_text = cell_lines (size_of f) ++ peak_line

abbrev pub answer_line : List ℕ → Counts → List ℕ
answer_line word c = line (word ␣ decimal c.visits ␣ decimal c.raises)

abbrev pub refused_line : ℕ → ℕ → List ℕ
refused_line number place = line (refused_word ␣ decimal number ␣ decimal place)

abbrev pub answer_text : Film → RunAnswer → List ℕ → List ℕ
answer_text f (done c) p = answer_line done_word c ++ field_text f p
answer_text f (stopped c) p = answer_line stopped_word c ++ field_text f p
answer_text f (over i c) p = answer_line over_word c ++ line (place_text f i)

abbrev pub head_line : Film → List ℕ
head_line f = line (film_word ␣ decimal f.rows ␣ decimal f.columns ␣ ceiling_word ␣ decimal f.ceiling)

-- one run from zero, order 0, proposals off, budget 4,000,000
abbrev pub report_budget : ℕ
report_budget = 4000000

abbrev pub report_run : Film → Result RunAnswer
report_run f = run f report_budget 0 false (replicate (size_of f) 0)

abbrev pub film_report : Film → List ℕ
film_report f = head_line f ++ answer_text f (report_run f).answer (report_run f).lent

abbrev pub report_by : Answer Film → List ℕ
report_by (answered f) = film_report f
report_by (refused number place) = refused_line number place

-- the report of a file, of either kind
abbrev pub report_of : List ℕ → List ℕ
report_of bytes = report_by (read_either bytes)

-- as many bytes of a file as decide its report (`report_prefix`): one more than the longest accepted file, which comes as coefficients
-- and has 27 + 22 × 1,024 = 22,555
abbrev pub enough : ℕ
enough = 22556
