-- The report of a file by the tag behind its weights, and the call that writes it, where its test of the buffer has passed.
use mathlib.Core.Path.{◌≡◌, ap, ◌∙◌}
use mathlib.Core.Bool.{Bool, true, false, cond}
use Rattle.std.specs.Prelude.{Result as Outcome, Ok}
use mathlib.Core.List.{List}
use Prim.Native.Nat.{ℕ, ◌≤◌}
use native.Mathlib.Omega.{arith}
use borrow.Author.Tests.{le-ltb, ltb-false}
use lib.ListN.{length}
use Rattle.model.specs.Refusals.{pass, check_of}
use Rattle.model.specs.Result.{answered, Gives}
use Rattle.model.specs.declared.Refusal.{Refusal}
use Rattle.model.proofs.Checks.{fail_if_pass}
use Rattle.refusals.proofs.Chain.{passed}
use Rattle.model.specs.File.{read_film, Bytes}
use Rattle.model.specs.CoefficientFile.{read_coefficients}
use Rattle.model.specs.EitherFile.{tagged06, formed_by}
use Rattle.model.specs.Report.{report_by, report_of}
use Rattle.model.specs.ReportCall.{longest_report, buffer_check, report_call}
use Rattle.model.proofs.Report.{report_fits}
use Rattle.text.specs.Writes.{Fits, Writes}
use Rattle.text.proofs.Writes.{sets_front}

module _ (bytes : List ℕ) where
  -- the report of the film that the reader so chosen reads
  chosen : (b : Bool) → tagged06 bytes ≡ b → report_of bytes ≡ report_by (cond b (read_coefficients bytes) (formed_by (read_film bytes)))
  chosen b e = ap (λ (x : Bool). report_by (cond x (read_coefficients bytes) (formed_by (read_film bytes)))) e

  pub by_coefficients_lem : tagged06 bytes ≡ true → report_of bytes ≡ report_by (read_coefficients bytes)
  by_coefficients_lem = chosen true

  pub by_gauge_lem : tagged06 bytes ≡ false → report_of bytes ≡ report_by (formed_by (read_film bytes))
  by_gauge_lem = chosen false

module _ (bytes out : List ℕ) {t : Outcome (Unit {0}) Refusal} {a : Unit {0}} (found : check_of t ≡ buffer_check out) (e : t ≡ Ok a) where
  long : longest_report ≤ length out
  long = ltb-false _ _ (fail_if_pass _ 10 0 (passed found e))

  pub long_fits : Bytes bytes → Fits (report_of bytes) out 0
  long_fits B = record { room = omega (arith, report_fits bytes B, long) }

  pub long_written : {after : List ℕ} {n : ℕ} → Bytes bytes → Writes (report_of bytes) out 0 after n → Gives (report_call bytes out) (answered n) after
  long_written {after} {n} B w =
      let size : n ≡ length (report_of bytes) = omega (arith, w.next_is) in
      let passes : buffer_check out ≡ pass = passed found e in
      record {
        answer_is = rw passes (ap answered size);
        lent_is = rw passes (w.bytes_are ∙ sets_front out (report_of bytes) (omega (arith, report_fits bytes B, long)));
      }

module _ (bytes out : List ℕ) where
  -- what was written is within the buffer
  pub written_fits : {after : List ℕ} {n : ℕ} → Bytes bytes → longest_report ≤ length out → Gives (report_call bytes out) (answered n) after
      → n ≤ length out
  written_fits {after} {n} B h G =
      let told : answered n ≡ answered (length (report_of bytes)) = rw (le-ltb _ _ h) at G.answer_is in
      let size : n ≡ length (report_of bytes) = cc in
      omega (arith, report_fits bytes B)
