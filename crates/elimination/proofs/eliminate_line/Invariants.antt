-- `elimination::eliminate_line` meets its contract: after each turn the steps so far are the model's and kept, and none of them is broken (`Going`).
use Rattle.elimination.proofs.Forward.{Going}
use Rattle.elimination.proofs.eliminate_line.Given as goal

abbrev pub invariant-loop-j : goal.invariant-loop-j
invariant-loop-j l = Going l.fn.film l.field l.start l.j l.steps l.preceding
