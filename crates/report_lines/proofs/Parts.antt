-- The report's lines, as their parts stand one after another.
use mathlib.Core.Path.{◌≡◌, sym, ap, ◌∙◌}
use mathlib.Core.List.{List, [], ◌∷◌, ◌++◌, append_assoc}
use Prim.Native.Nat.{ℕ}
use Rattle.model.specs.Report.{◌␣◌, line, decimal, film_word, ceiling_word, peak_word}
use Rattle.report_lines.specs.Lines.{pair, head_text, peak_text}

abbrev pub space : List ℕ
space = 32 ∷ []

abbrev pub end : List ℕ
end = 10 ∷ []

pub pair_parts : (a b : ℕ) → pair a b ≡ decimal a ++ (space ++ decimal b)
pair_parts a b = append_assoc (decimal a) space (decimal b)

-- a word or number, and the rest of a line
pub line_parts : (a b : List ℕ) → line (a ␣ b) ≡ a ++ (space ++ line b)
line_parts a b = append_assoc (a ++ space) b end ∙ append_assoc a space (line b)

pub peak_parts : (r c p : ℕ) → peak_text r c p ≡ (peak_word ++ space) ++ (pair r c ++ (space ++ (decimal p ++ end)))
peak_parts r c p = ap (λ l. (peak_word ++ space) ++ l) (line_parts (pair r c) (decimal p))

pub head_parts : (r c k : ℕ) → head_text r c k ≡ (film_word ++ space) ++ (pair r c ++ ((space ++ ceiling_word ++ space) ++ (decimal k ++ end)))
head_parts r c k =
    let rest = ceiling_word ␣ decimal k in
    let a = decimal r ++ space in
    ap (λ l. (film_word ++ space) ++ line l)
    (sym (append_assoc a (decimal c ++ space) rest) ∙ ap (λ l. l ++ rest) (sym (append_assoc a (decimal c) space)))
    ∙ ap (λ l. (film_word ++ space) ++ l) (line_parts (pair r c) rest)
