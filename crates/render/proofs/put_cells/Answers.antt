-- `render::put_cells` meets its contract: after each turn the first i lines are written, and where all lines have room the next one has (`line_fits`).
use Prim.Native.Nat.{◌<◌}
use native.Mathlib.Omega.{arith}
use Rattle.model.specs.Film.{size_of}
use Rattle.render.proofs.Cells.{lines_none, lines_next, line_fits}
use Rattle.render.proofs.put_cells.Goals as goal

pub loop-i-init : goal.loop-i-init
loop-i-init c = lines_none c.args.film.now c.args.field.now

pub put_cell-next-requires-clause-fits : goal.put_cell-next-requires-clause-fits
put_cell-next-requires-clause-fits c =
    let inside : c.loop-i.i < size_of c.args.film.now = omega arith in
    line_fits c.args.film.now c.args.field.now c.loop-i.i _ inside c.requires.fits c.loop-i.invariant

pub loop-i-preserved : goal.loop-i-preserved
loop-i-preserved c = lines_next c.args.film.now c.args.field.now c.loop-i.i c.loop-i.invariant c.put_cell-next.ensures
