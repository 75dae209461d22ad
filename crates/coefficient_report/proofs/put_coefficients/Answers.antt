-- `coefficient_report::put_coefficients` meets its contract: what was read is the film that the model reads, whose numbers stand at the starts of the buffers,
-- or its refusal.
use mathlib.Core.Path.{refl, sym, subst}
use mathlib.Core.List.{List}
use Prim.Native.Nat.{ℕ}
use native.Mathlib.Omega.{arith}
use Rattle.text.specs.Writes.{Fits, Writes}
use Rattle.film_text.proofs.Buffers.{part_length, take_zeros}
use Rattle.coefficient_report.proofs.Texts.{read_report, read_few}
use Rattle.coefficient_report.proofs.put_coefficients.Goals as goal

pub slice_bounds-weights-end : goal.slice_bounds-weights-end
slice_bounds-weights-end c = omega (arith, read_few c.args.file.now c.in-Ok.ensures c.area-n.ensures, c.read.auto.weights)

pub slice_bounds-film-end : goal.slice_bounds-film-end
slice_bounds-film-end c = part_length c.read.new.weights (read_few c.args.file.now c.in-Ok.ensures c.area-n.ensures) c.read.auto.weights

pub slice_bounds-diagonals-end : goal.slice_bounds-diagonals-end
slice_bounds-diagonals-end c = omega (arith, read_few c.args.file.now c.in-Ok.ensures c.area-n.ensures, c.read.auto.diagonals)

pub slice_bounds-film-end-in-Ok : goal.slice_bounds-film-end-in-Ok
slice_bounds-film-end-in-Ok c = part_length c.read.new.diagonals (read_few c.args.file.now c.in-Ok.ensures c.area-n.ensures) c.read.auto.diagonals

pub slice_bounds-rights-end : goal.slice_bounds-rights-end
slice_bounds-rights-end c = omega (arith, read_few c.args.file.now c.in-Ok.ensures c.area-n.ensures, c.read.auto.rights)

pub slice_bounds-film-end-in-Ok-2 : goal.slice_bounds-film-end-in-Ok-2
slice_bounds-film-end-in-Ok-2 c = part_length c.read.new.rights (read_few c.args.file.now c.in-Ok.ensures c.area-n.ensures) c.read.auto.rights

pub slice_bounds-ups-end : goal.slice_bounds-ups-end
slice_bounds-ups-end c = omega (arith, read_few c.args.file.now c.in-Ok.ensures c.area-n.ensures, c.read.auto.ups)

pub slice_bounds-film-end-in-Ok-3 : goal.slice_bounds-film-end-in-Ok-3
slice_bounds-film-end-in-Ok-3 c = part_length c.read.new.ups (read_few c.args.file.now c.in-Ok.ensures c.area-n.ensures) c.read.auto.ups

pub slice_bounds-sources-end : goal.slice_bounds-sources-end
slice_bounds-sources-end c = omega (arith, read_few c.args.file.now c.in-Ok.ensures c.area-n.ensures, c.read.auto.sources)

pub slice_bounds-film-end-in-Ok-4 : goal.slice_bounds-film-end-in-Ok-4
slice_bounds-film-end-in-Ok-4 c = part_length c.read.new.sources (read_few c.args.file.now c.in-Ok.ensures c.area-n.ensures) c.read.auto.sources

pub slice_bounds-field-end : goal.slice_bounds-field-end
slice_bounds-field-end c = read_few c.args.file.now c.in-Ok.ensures c.area-n.ensures

pub slice_bounds-put_run-end : goal.slice_bounds-put_run-end
slice_bounds-put_run-end c = part_length _ (read_few c.args.file.now c.in-Ok.ensures c.area-n.ensures) refl

pub put_run-requires-clause-accepted : goal.put_run-requires-clause-accepted
put_run-requires-clause-accepted c =
    ((read_report c.args.file.now c.in-Ok.ensures c.area-n.ensures).accepted, take_zeros _ 1024 (read_few c.args.file.now c.in-Ok.ensures c.area-n.ensures) c.area-n.ensures)

pub put_run-requires-clause-fits : goal.put_run-requires-clause-fits
put_run-requires-clause-fits c = subst (λ (l : List ℕ). Fits l c.args.out.now 0) (read_report c.args.file.now c.in-Ok.ensures c.area-n.ensures).text c.requires

pub returns-in-Ok : goal.returns-in-Ok
returns-in-Ok c =
    subst (λ (l : List ℕ). Writes l c.args.out.now 0 c.put_run.new.out c.put_run.result) (sym (read_report c.args.file.now c.in-Ok.ensures c.area-n.ensures).text) c.put_run.ensures
