-- `row_sums::dominance_test` meets its contract: the closure that it hands to the search answers as `not_dominant` of the formed film at each cell.
use Rattle.std.proofs.Common.{◌≡◌, ◌*◌, ap, refl, ◌∙◌, rules, ℤ}
use Rattle.model.specs.Refusals.{check_of, fail_first}
use Rattle.model.specs.Film.{beside, across, neighbours}
use Rattle.model.specs.Gauge.{Gauge}
use Rattle.model.specs.Coefficients.{formed}
use Rattle.model.specs.Checks.{not_dominant}
use Rattle.model.specs.File.{gauge_dominance}
use Rattle.row_sums.proofs.dominance_test.Goals as goal

-- sources do not count, so 9 is the same with another wedge number
every_wedge : (g : Gauge) (wedge : ℤ) → gauge_dominance g ≡ gauge_dominance (record g { wedge = wedge })
unfolding gauge_dominance not_dominant neighbours beside across
every_wedge g wedge = refl

found : (c : goal.After-first_cell) → check_of c.first_cell.result ≡ gauge_dominance c.args.film.now
unfolding gauge_dominance
found c =
    let g : Gauge = c.args.film.now in
    let columns : c.film.inside.head.columns ≡ g.columns = ap (λ (k : Gauge). k.columns) c.film.view_is in
    c.first_cell.ensures (not_dominant (formed g)) (λ row column i answer e. rw columns (search rules))
    ∙ ap (λ (k : Gauge). fail_first (not_dominant (formed g)) (k.rows * k.columns) 9 (λ i. i)) c.film.view_is

pub returns-clause-own : goal.returns-clause-own
returns-clause-own c = found c

pub returns-clause-any_wedge : goal.returns-clause-any_wedge
returns-clause-any_wedge c wedge = found c ∙ every_wedge c.args.film.now wedge
