-- The call that writes a file's report into a lent buffer.
use Rattle.std.specs.Prelude.{List, ℕ, ltb, length}
use Rattle.model.specs.Refusals.{Check, fail_if}
use Rattle.model.specs.Result.{Answer, Result, call_by}
use Rattle.model.specs.FileCalls.{laid_over}
use Rattle.model.specs.Report.{report_of}

-- The longest report has 32 rows and columns, 7 digits for visits and for raises, 8 for the ceiling and for each pressure, and 16 and
-- a sign for each slack: lines of 28 and 24 bytes, 33,216 bytes for the cells, and 20 for the peak.
abbrev pub longest_report : ℕ
longest_report = 33288

-- 10, unless the buffer holds any report
abbrev pub buffer_check : List ℕ → Check
buffer_check out = fail_if (ltb (length out) longest_report) 10 0

-- the text at the buffer's start, and its length; places beyond it keep their contents
abbrev pub report_call : List ℕ → List ℕ → Result (Answer ℕ)
report_call bytes out =
    call_by (buffer_check out) (record { answer = length (report_of bytes); lent = laid_over (report_of bytes) out }) out
