-- `number_lists::sources_in` meets its contract: the number at a slice's start is the one at that offset of the file (`quad_from`), and a source comes back from
-- its bits unchanged.
use mathlib.Core.Path.{ap, ◌∙◌}
use Prim.Native.Nat.{◌+◌, ◌*◌}
use native.Mathlib.Omega.{arith}
use borrow.Author.Rules.{sfits_of}
use mir.Facts.{to_z-of_z}
use mir.Syntax.{w64}
use Rattle.model.specs.Bytes.{signed_quad}
use Rattle.grid.proofs.Fill.{filled_more}
use Rattle.words.proofs.Rest.{quad_from}
use Rattle.number_lists.proofs.sources_in.Goals as goal

pub loop-i-preserved : goal.loop-i-preserved
loop-i-preserved c =
    let stands = c.first_quad.ensures ∙ quad_from c.args.file.now (c.args.at + 8 * c.loop-i.i) in
    filled_more _ _ (omega arith) (to_z-of_z {w = w64} (sfits_of c.signed_quad.type_inv) ∙ c.signed_quad.ensures ∙ ap signed_quad stands)
    c.loop-i.invariant
