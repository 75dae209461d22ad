-- `text::put_bytes` meets its contract: after each turn the first i bytes stand from `at` on, and no other place has changed.
use Rattle.text.proofs.Writes.{Put}
use Rattle.text.proofs.put_bytes.Given as goal

abbrev pub invariant-loop-i : goal.invariant-loop-i
invariant-loop-i l = Put (λ l. l) l.bytes l.at l.initial.out l.i l.out
