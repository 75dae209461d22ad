-- `margin::margin_at` meets its contract: the pull of ones is the inside links, the slack under the weights is the dominance, above 0, and sources do not count.
use mathlib.Core.Path.{ap, ap₂, ◌∙◌}
use Prim.Native.Nat.{ℕ}
use borrow.Author.Rules.{rules, sfits_of}
use Rattle.monotone.specs.Linear.{required_of}
use Rattle.model.specs.Film.{Film, diagonal_at}
use Rattle.grid.specs.Pull.{pull_by}
use Rattle.margin.proofs.LeastMargin.{inside_found, inside_fits, dominance_found, dominance_fits}
use Rattle.margin.proofs.margin_at.Goals as goal

pub quotient_up-requires : goal.quotient_up-requires
quotient_up-requires c =
    let v = c.film.view_is in
    let f = c.args.film.now in
    let A = c.requires.accepted.0.1 in
    let b = c.requires.ones.1 in
    let inside = c.pull_at-inside.ensures.0 ∙ ap (λ (f : Film). pull_by f.columns f.rights f.ups c.args.ones.now c.args.at) v in
    let pull = c.pull_at.ensures.0 ∙ ap (λ (f : Film). pull_by f.columns f.rights f.ups c.args.weights.now c.args.at) v in (
      inside_fits f A b c.requires.ones.0 inside,
      dominance_fits f A b c.requires.accepted.1 (ap (λ (f : Film). diagonal_at f c.args.at) v) pull c.slack.ensures (search rules) (sfits_of c.slack.type_inv),
    )

pub returns : goal.returns
returns c =
    let v = c.film.view_is in
    let f = c.args.film.now in
    let A = c.requires.accepted.0.1 in
    let b = c.requires.ones.1 in
    let inside = c.pull_at-inside.ensures.0 ∙ ap (λ (f : Film). pull_by f.columns f.rights f.ups c.args.ones.now c.args.at) v in
    let pull = c.pull_at.ensures.0 ∙ ap (λ (f : Film). pull_by f.columns f.rights f.ups c.args.weights.now c.args.at) v in
    c.quotient_up.ensures
    ∙ ap₂ (λ (d t : ℕ). required_of d 0 t)
    (dominance_found f A b c.requires.accepted.1 (ap (λ (f : Film). diagonal_at f c.args.at) v) pull c.slack.ensures (search rules))
    (inside_found f A b c.requires.ones.0 inside)
