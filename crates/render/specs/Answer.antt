-- A run's answer as the report's text: what it says of the grid, and the text where a refusal is among the answers, as the code has them.
use Rattle.std.specs.Prelude.{List, ℕ, ◌<◌}
use Rattle.model.specs.Film.{Film}
use Rattle.model.specs.Result.{Answer, answered, refused}
use Rattle.model.specs.Run.{RunAnswer, done, stopped, over}
use Rattle.model.specs.Report.{answer_text, refused_line}

-- the cell of Over is one of n cells
abbrev pub Inside : ℕ → Answer RunAnswer → Type 0
Inside n (answered (done c)) = Unit {0}
Inside n (answered (stopped c)) = Unit {0}
Inside n (answered (over i c)) = i < n
Inside n (refused number place) = Unit {0}

abbrev pub text_of : Film → Answer RunAnswer → List ℕ → List ℕ
text_of f (answered a) p = answer_text f a p
text_of f (refused number place) p = refused_line number place
