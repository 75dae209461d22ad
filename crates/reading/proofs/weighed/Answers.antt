-- `reading::weighed` meets its contract: weights that are found are the model's (`weighs_found`), and so are those that stand in the file (`weighs_standing`).
use mathlib.Core.Path.{◌≡◌, sym, ap, subst, ◌∙◌}
use mathlib.Core.Bool.{true, false}
use Prim.Native.Nat.{ℕ, ◌+◌, ◌*◌}
use native.Mathlib.Nat.{le_refl}
use native.Mathlib.Omega.{arith}
use lib.ListN.{length}
use lib.Seq.{take_all}
use Rattle.std.proofs.Common.{rules, to_z, of_z, w32}
use Rattle.model.specs.Lists.{tabulate}
use Rattle.model.specs.Gauge.{factors_of, Stepped}
use Rattle.model.specs.Bytes.{word_at}
use Rattle.model.specs.File.{weights_offset, weightless}
use Rattle.reading.proofs.Numbers.{ringed, stepped, few_cells, cells_are, weights_long, limited, weighs_found, weighs_standing}
use Rattle.reading.proofs.weighed.Goals as goal

pub search_gauged-requires-clause-ringed : goal.search_gauged-requires-clause-ringed
search_gauged-requires-clause-ringed c =
    let l = c.args.file.now in
    let D = c.requires.0 in
    (ringed l D _ _ _, subst Stepped (ap factors_of c.in-None.is) (stepped l D), c.requires.1)

pub search_gauged-requires-clause-limited : goal.search_gauged-requires-clause-limited
search_gauged-requires-clause-limited c = limited c.args.file.now c.requires.0 (ap factors_of c.in-None.is)

pub search_gauged-requires-in-Some-clause-ringed : goal.search_gauged-requires-in-Some-clause-ringed
search_gauged-requires-in-Some-clause-ringed c =
    let l = c.args.file.now in
    let D = c.requires.0 in
    (ringed l D _ _ _, subst Stepped (ap factors_of c.in-Some.is) (stepped l D), c.requires.1)

pub search_gauged-requires-in-Some-clause-limited : goal.search_gauged-requires-in-Some-clause-limited
search_gauged-requires-in-Some-clause-limited c = limited c.args.file.now c.requires.0 (ap factors_of c.in-Some.is)

pub returns-in-None : goal.returns-in-None
returns-in-None c =
    let none : weightless c.args.file.now ≡ true = sym c.weightless.ensures ∙ c.if-weightless.true in
    weighs_found c.args.file.now c.requires.0 (ap factors_of c.in-None.is) _ none c.search_gauged.ensures

pub returns-in-Some : goal.returns-in-Some
returns-in-Some c =
    let none : weightless c.args.file.now ≡ true = sym c.weightless.ensures ∙ c.if-weightless.true in
    weighs_found c.args.file.now c.requires.0 (ap factors_of c.in-Some.is) _ none c.search_gauged-in-Some.ensures

pub weights_in-requires : goal.weights_in-requires
weights_in-requires c =
    let some : weightless c.args.file.now ≡ false = sym c.weightless.ensures ∙ c.if-weightless.false in
    let l = c.args.file.now in
    let D = c.requires.0 in
    (le_refl _, few_cells l D c.requires.1, weights_long l D c.requires.1 some)

pub dominance_test-requires : goal.dominance_test-requires
dominance_test-requires c =
    let l = c.args.file.now in
    let D = c.requires.0 in
    (ringed l D _ _ _, c.weights_in.auto.weights ∙ c.requires.1, stepped l D)

pub returns : goal.returns
returns c =
    let some : weightless c.args.file.now ≡ false = sym c.weightless.ensures ∙ c.if-weightless.false in
    let l = c.args.file.now in
    let exit = c.weights_in.new.weights in
    let n = length c.args.weights.now in
    let whole = take_all n exit (omega (arith, c.weights_in.auto.weights)) in
    let cells = c.requires.1 ∙ cells_are l c.requires.0 in
    let wedge : to_z w32 (of_z w32 c.args.numbers.wedge) ≡ c.args.numbers.wedge = search rules in
    weighs_standing l c.requires.0 _ some (sym whole ∙ c.weights_in.ensures ∙ ap (λ (k : ℕ). tabulate k (λ i. word_at l (weights_offset + 2 * i))) cells) (rw wedge at c.dominance_test.ensures.own)
