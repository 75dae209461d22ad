-- The text that was written is the film's report, and `==` tells whether it is the expected one.
use Rattle.std.proofs.Common.{◌≡◌, ◌∙◌, ◌≤◌, List, ℕ, sym, take, length}
use Rattle.std.proofs.Math.Seq.{take-append_seam}
use Rattle.std.proofs.lemmas.Bool.{le-ltb, eqb-true, eq-eqb}
use Rattle.std.proofs.lemmas.Slice.Eq.{slice_eq-Decides}
use Rattle.model.specs.Result.{Gives, answered}
use Rattle.model.specs.Report.{report_of}
use Rattle.model.specs.ReportCall.{longest_report, report_call}
use Rattle.report_vectors.proofs.agrees.Goals as goal

report_written : (film before after : List ℕ) (n : ℕ) → longest_report ≤ length before → Gives (report_call film before) (answered n) after
    → take n after ≡ report_of film
report_written film before after n h G =
    let told : answered n ≡ answered (length (report_of film)) = rw (le-ltb _ _ h) at G.answer_is in
    let size : n ≡ length (report_of film) = cc in
    rw (size, (rw (le-ltb _ _ h) at G.lent_is)) (take-append_seam _ _)

pub returns-in-Ok : goal.returns-in-Ok
returns-in-Ok c =
    let written = report_written c.args.film.now c.args.text.now c.report.new.out c.in-Ok.n c.requires c.in-Ok.ensures in
    let same = slice_eq-Decides (λ a b. (eqb-true a b, eq-eqb a b)) _ _ c.eq.result c.eq.ensures in
    (λ t. sym written ∙ same.0 t, λ e. same.1 (written ∙ e))
