-- `own_proposals::propose_lines` meets its contract: after each turn the lines so far have been proposed as the model proposes them, and no line has more cells
-- to raise than columns, so that the count fits.
use Prim.Native.Nat.{◌-◌}
use Rattle.own_proposals.proofs.Proposals.{Proposing}
use Rattle.own_proposals.proofs.propose_lines.Given as goal

abbrev pub invariant-loop-line : goal.invariant-loop-line
invariant-loop-line l = Proposing l.film l.initial.field l.field l.accepted (l.line - 1)
