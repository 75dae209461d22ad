-- `run::run` meets its contract: a film and a field that pass its tests are readied, and then relaxed, as the model does.
use mathlib.Core.Path.{◌≡◌, sym, ap, ◌∙◌}
use mathlib.Core.Bool.{true}
use mathlib.Core.List.{List}
use Prim.Native.Nat.{ℕ}
use Rattle.model.specs.Refusals.{pass, check_of}
use Rattle.model.specs.Result.{answered, Result, unrefused, Gives}
use Rattle.model.specs.Run.{run, run_check}
use Rattle.model.proofs.Checks.{field_passes}
use Rattle.run.proofs.run.Goals as goal

pub ready-accepted-requires : goal.ready-accepted-requires
ready-accepted-requires c =
    let a = c.args in
    let P = field_passes a.film.now a.field.now true (check_of c.order_test-ordered.result) pass (sym c.in_ok-field_tests.ensures) in
    (P.film, P.bounded)

pub relaxations-requires-clause-limited : goal.relaxations-requires-clause-limited
relaxations-requires-clause-limited c =
    let a = c.args in (
      a.film.now.weights,
      (field_passes a.film.now a.field.now true (check_of c.order_test-ordered.result) pass (sym c.in_ok-field_tests.ensures)).film.limited,
    )

pub relaxations-requires-clause-field : goal.relaxations-requires-clause-field
relaxations-requires-clause-field c =
    let a = c.args in
    let P = field_passes a.film.now a.field.now true (check_of c.order_test-ordered.result) pass (sym c.in_ok-field_tests.ensures) in
    c.ready-accepted.auto.field ∙ P.bounded.len

-- what a call gives whose tests have passed
given : {A : Type 0} {r : Result A} {a : A} {exit : List ℕ} → Gives r a exit → Gives (unrefused r) (answered a) exit
given G = record { answer_is = ap answered G.answer_is; lent_is = G.lent_is }

pub returns : goal.returns
unfolding run
returns c =
    let a = c.args in
    let R = c.ready-accepted.ensures in
    let passes : run_check a.film.now a.field.now a.order ≡ pass = rw (← c.order_test-ordered.ensures) (sym c.in_ok-field_tests.ensures) in
    rw passes (given (rw (R.accepted_is, R.field_is) at c.relaxations.ensures))
