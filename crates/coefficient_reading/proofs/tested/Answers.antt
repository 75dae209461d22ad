-- `coefficient_reading::tested` meets its contract: 14 is tested of the numbers that stand in the file, and what passes it has its weights tested
-- (`weighs_standing`) or found (`weighs_found`).
use mathlib.Core.Path.{◌≡◌, sym, ap, ◌∙◌}
use mathlib.Core.Bool.{true, false}
use Prim.Native.Nat.{ℕ, ◌+◌, ◌*◌}
use native.Mathlib.Nat.{le_refl}
use native.Mathlib.Omega.{arith}
use lib.ListN.{length}
use lib.Seq.{take_all}
use Rattle.std.proofs.lemmas.Result.{err_from_is_err_and}
use Rattle.model.specs.Lists.{tabulate}
use Rattle.model.specs.Bytes.{word_at}
use Rattle.model.specs.File.{weights_offset, weightless}
use Rattle.coefficient_reading.proofs.Numbers.{cells_are, few_cells, weights_long, sized, fine, limited, searchable, weighs_found, weighs_standing, weighs_refused}
use Rattle.coefficient_reading.proofs.tested.Goals as goal

pub coefficient_test-requires : goal.coefficient_test-requires
coefficient_test-requires c = (c.args.weights.now, sized c.args.file.now c.requires.0 c.args.weights.now c.requires.1)

pub returns-in_err-coefficient_test : goal.returns-in_err-coefficient_test
returns-in_err-coefficient_test c =
    let p = err_from_is_err_and c.from_residual.result c.from_residual.ensures.1 in
    rw (p.1, p.2) (weighs_refused c.args.file.now c.requires.0 c.args.weights.now c.in_err-coefficient_test.was c.coefficient_test.ensures)

pub search-requires : goal.search-requires
search-requires c =
    let l = c.args.file.now in
    (searchable l c.requires.0 (fine l c.requires.0 c.args.weights.now c.in_ok-coefficient_test.was c.coefficient_test.ensures), c.requires.1)

pub returns-then-weightless : goal.returns-then-weightless
returns-then-weightless c =
    let l = c.args.file.now in
    let none : weightless l ≡ true = sym c.weightless.ensures ∙ c.if-weightless.true in
    weighs_found l c.requires.0 (fine l c.requires.0 c.args.weights.now c.in_ok-coefficient_test.was c.coefficient_test.ensures) _ none c.search.ensures

pub weights_in-requires : goal.weights_in-requires
weights_in-requires c =
    let l = c.args.file.now in
    let some : weightless l ≡ false = sym c.weightless.ensures ∙ c.if-weightless.false in
    (le_refl _, few_cells l c.requires.0 c.requires.1, weights_long l c.requires.0 c.requires.1 some)

pub dominance_test-requires : goal.dominance_test-requires
dominance_test-requires c =
    let l = c.args.file.now in (
      c.args.sources.now,
      limited l c.requires.0 (fine l c.requires.0 c.args.weights.now c.in_ok-coefficient_test.was c.coefficient_test.ensures) c.weights_in.new.weights
          (c.weights_in.auto.weights ∙ c.requires.1),
    )

pub returns : goal.returns
returns c =
    let l = c.args.file.now in
    let some : weightless l ≡ false = sym c.weightless.ensures ∙ c.if-weightless.false in
    let exit = c.weights_in.new.weights in
    let whole = take_all (length c.args.weights.now) exit (omega (arith, c.weights_in.auto.weights)) in
    let cells = c.requires.1 ∙ cells_are l c.requires.0 in
    weighs_standing l c.requires.0 (fine l c.requires.0 c.args.weights.now c.in_ok-coefficient_test.was c.coefficient_test.ensures) _ some
    (sym whole ∙ c.weights_in.ensures ∙ ap (λ (k : ℕ). tabulate k (λ i. word_at l (weights_offset + 2 * i))) cells) c.dominance_test.ensures
