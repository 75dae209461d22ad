-- `values::thickness_values` meets its contract: the part of the file that is tested has the bytes that stand there (`part_tested`).
use mathlib.Core.Path.{◌∙◌}
use Rattle.values.proofs.Parts.{part_tested}
use Rattle.values.proofs.thickness_values.Goals as goal

pub returns : goal.returns
returns c =
    c.thicknesses_test.ensures ∙ part_tested c.args.file.now c.args.at c.args.t c.requires.0
