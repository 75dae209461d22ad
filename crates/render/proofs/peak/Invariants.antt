-- `render::peak` meets its contract: after each turn `best` is the model's peak of the first i cells, its column and that of cell i are counted (`Peaked`).
use Rattle.render.proofs.Greatest.{Peaked}
use Rattle.render.proofs.peak.Given as goal

abbrev pub invariant-loop-i : goal.invariant-loop-i
invariant-loop-i l = Peaked l.columns l.field l.best l.edge l.column l.i
