-- `cell::Cell::slack` meets its contract: positive terms − negative terms are the slack, and the limits keep both within 2 ^ 62.
use mathlib.Core.Path.{sym, ap₂, ◌∙◌}
use native.Mathlib.Omega.{arith}
use lib.IntN.{sub_ℕ}
use mir.Facts.{to_z-of_z}
use mir.Syntax.{w64}
use borrow.Author.Rules.{sfits_of}
use Rattle.cell.proofs.Limits.{positive_terms_small, negative_terms_small, slack_split}
use Rattle.cell.proofs.Cell.slack.Goals as goal

pub difference-requires : goal.difference-requires
difference-requires c =
    let s = c in
    omega (arith, positive_terms_small _ s.requires s.args.pressure s.ranges.pressure.fits, negative_terms_small _ s.requires)

pub returns : goal.returns
returns c =
    let s = c in
    to_z-of_z {w = w64} (sfits_of c.difference.type_inv)
    ∙ c.difference.ensures
    ∙ ap₂ sub_ℕ c.positive_terms.ensures c.negative_terms.ensures
    ∙ sym (slack_split s.args.self s.args.pressure)
