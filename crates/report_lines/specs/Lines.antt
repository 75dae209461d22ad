-- The report's lines, by the numbers that stand on them.
use Rattle.std.specs.Prelude.{List, ℕ, ℤ}
use Rattle.model.specs.Report.{◌␣◌, line, decimal, signed, film_word, ceiling_word, peak_word}

abbrev pub pair : ℕ → ℕ → List ℕ
pair a b = decimal a ␣ decimal b

abbrev pub head_text : ℕ → ℕ → ℕ → List ℕ
head_text rows columns ceiling = line (film_word ␣ decimal rows ␣ decimal columns ␣ ceiling_word ␣ decimal ceiling)

abbrev pub cell_text : ℕ → ℕ → ℕ → ℤ → List ℕ
cell_text row column pressure slack = line (pair row column ␣ decimal pressure ␣ signed slack)

abbrev pub peak_text : ℕ → ℕ → ℕ → List ℕ
peak_text row column pressure = line (peak_word ␣ pair row column ␣ decimal pressure)
