-- `render::peak` meets its contract: after each turn `best` is the model's peak of the first i cells, its column and that of cell i are counted (`Peaked`).
use mathlib.Core.Path.{◌≡◌, sym, ◌∙◌}
use Prim.Native.Nat.{◌+◌, ◌%◌, ◌<◌}
use lib.ListN.{length}
use borrow.Author.Rules.{rules}
use Rattle.render.proofs.Greatest.{one_further, first_again, peak_none, peak_taken, peak_kept}
use Rattle.render.proofs.peak.Goals as goal
use Rattle.render.proofs.peak.Goals.{then-column-columns, else-column-columns, then-outranks, else-outranks}

pub loop-i-init : goal.loop-i-init
loop-i-init c = peak_none

pub loop-i-preserved : goal.loop-i-preserved
loop-i-preserved c =
    let h : c.loop-i.i < length c.args.field.now = search rules in
    let n : c.if-column-columns.column ≡ (c.loop-i.i + 1) % c.args.columns =
    elim c.if-column-columns.branch [
      | then-column-columns w ↦ w.column-is ∙ first_again _ _ c.loop-i.invariant.counted w.if-column-columns.true
      | else-column-columns w ↦ w.column-is ∙ one_further _ _ c.loop-i.invariant.counted c.requires w.if-column-columns.false
    ] in
    elim c.if-outranks.branch [
      | then-outranks w ↦ rw (w.best-is, w.edge-is) (peak_taken h c.loop-i.invariant (sym c.outranks.ensures ∙ w.if-outranks.true) n)
      | else-outranks w ↦ rw (w.best-is, w.edge-is) (peak_kept h c.loop-i.invariant (sym c.outranks.ensures ∙ w.if-outranks.false) n)
    ]
