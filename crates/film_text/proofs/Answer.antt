-- The report of an accepted film, from what the run answered.
use mathlib.Core.Path.{◌≡◌, refl, sym, ap, ◌∙◌, subst}
use mathlib.Core.Bool.{true, false}
use mathlib.Core.List.{List, ◌++◌}
use Prim.Native.Nat.{ℕ, zero, suc, ◌<◌}
use lib.ListN.{length, replicate}
use Rattle.monotone.proofs.History.{zeros_bounded}
use Rattle.model.specs.Refusals.{pass}
use Rattle.model.specs.Film.{Film, size_of, rule, beside, across, neighbours}
use Rattle.model.specs.Checks.{order_check}
use Rattle.model.specs.Accepted.{Accepted}
use Rattle.model.specs.Result.{Answer, answered, refused, unrefused, call_by, Gives}
use Rattle.model.specs.Run.{RunAnswer, done, stopped, over, run_call}
use Rattle.model.specs.Report.{head_line, cell_line, cell_lines, answer_text, report_budget, report_run, film_report}
use Rattle.model.specs.declared.Counts.{Counts}
use Rattle.model.proofs.Bare.{bare}
use Rattle.model.proofs.Run.{run_good, run_over}
use Rattle.model.proofs.Forming.{field_accepted}
use Rattle.text.specs.Writes.{Fits, Writes}
use Rattle.text.proofs.Writes.{fits_rest, writes_then}
use Rattle.render.specs.Answer.{Inside, text_of}

-- weights count for nothing in the text after a report's head
module _ (f : Film) (p : List ℕ) where
  lines_bare : (n : ℕ) → cell_lines (bare f) p n ≡ cell_lines f p n
  unfolding cell_lines neighbours beside across
  lines_bare zero = refl
  lines_bare (suc n) = ap (λ (l : List ℕ). l ++ cell_line f p n) (lines_bare n)

  pub answer_bare : (a : Answer RunAnswer) → text_of (bare f) a p ≡ text_of f a p
  answer_bare (answered (done c)) = rw (lines_bare (size_of f))
  answer_bare (answered (stopped c)) = rw (lines_bare (size_of f))
  answer_bare (answered (over i c)) = refl
  answer_bare (refused number place) = refl

-- What the report's run answers, and the field that it leaves: they give the report's text, and Over names a cell of the grid.
pub record Reports (f : Film) (a : Answer RunAnswer) (p : List ℕ) : Type 0 where
  pub len : length p ≡ size_of f
  pub inside : Inside (size_of f) a
  pub text : answer_text f (report_run f).answer (report_run f).lent ≡ text_of f a p

named : (n : ℕ) (a : RunAnswer) → ((i : ℕ) (c : Counts) → a ≡ over i c → i < n) → Inside n (answered a)
named n (done c) h = tt
named n (stopped c) h = tt
named n (over i c) h = h i c refl

module _ (f : Film) (A : Accepted f) where
  abbrev zeros : List ℕ
  zeros = replicate (size_of f) 0

  -- no test refuses it
  run_passes : run_call f report_budget 0 false zeros ≡ unrefused (report_run f)
  run_passes =
      ap (λ x. call_by x (report_run f) zeros) (field_accepted f zeros true (order_check 0) pass A (zeros_bounded (rule f)))

  pub run_reports : {field p : List ℕ} {a : Answer RunAnswer} → field ≡ zeros → Gives (run_call f report_budget 0 false field) a p → Reports f a p
  run_reports {field} {p} {a} e G =
      let call : run_call f report_budget 0 false field ≡ unrefused (report_run f) = ap (λ (q : List ℕ). run_call f report_budget 0 false q) e ∙ run_passes in
      let answer : a ≡ answered (report_run f).answer = G.answer_is ∙ ap (λ r. r.answer) call in
      let lent : p ≡ (report_run f).lent = G.lent_is ∙ ap (λ r. r.lent) call in
      let B = zeros_bounded (rule f) in
      record {
        len = ap length lent ∙ (run_good f A report_budget 0 false zeros B).rises.bounded.len;
        inside = subst (Inside (size_of f)) (sym answer) (named (size_of f) (report_run f).answer (run_over f A report_budget 0 false zeros B));
        text = sym (λ k. text_of f (answer k) (lent k));
      }

  -- behind the head's line there is room for what they say, and with it the report is written
  module _ {field p out middle : List ℕ} {a : Answer RunAnswer} {between : ℕ} (e : field ≡ zeros) (G : Gives (run_call f report_budget 0 false field) a p)
      (head : Writes (head_line f) out 0 middle between) where
    pub rest_fits : Fits (film_report f) out 0 → Fits (text_of f a p) middle between
    rest_fits h = subst (λ (l : List ℕ). Fits l middle between) (run_reports e G).text (fits_rest (head_line f) _ h head)

    pub rest_written : {after : List ℕ} {next : ℕ} → Writes (text_of f a p) middle between after next → Writes (film_report f) out 0 after next
    rest_written {after} {next} w =
        writes_then head (subst (λ (l : List ℕ). Writes l middle between after next) (sym (run_reports e G).text) w)
