-- `raising::raise_line` meets its contract: each place is filled in turn with the larger of pressure and proposal, which is `raised_at`.
use mathlib.Core.Path.{◌≡◌}
use lib.ListN.{take}
use Rattle.model.specs.Lists.{tabulate}
use Rattle.model.specs.Proposal.{raised_at}
use Rattle.raising.proofs.raise_line.Given as goal

abbrev pub invariant-loop-at : goal.invariant-loop-at
invariant-loop-at l = take l.at l.raised ≡ tabulate l.at (raised_at l.start l.proposal l.field)
