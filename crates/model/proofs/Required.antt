-- The required pressure of a cell in a field: the least that makes the cell's slack non-negative with the other pressures of the field fixed, since a
-- cell does not pull itself. The same of Reynolds' difference form; and in the least field every cell has just what it requires.
use mathlib.Core.Path.{◌≡◌, refl, sym, ap, ◌∙◌}
use mathlib.Core.Logic.{◌↔◌, ◌≢◌}
use mathlib.Core.Bool.{Bool, true, false}
use mathlib.Core.List.{List}
use Prim.Native.Nat.{ℕ, ◌+◌, ◌-◌, ◌*◌, ◌/◌, ◌%◌, ◌≤◌, ◌<◌}
use native.Mathlib.Nat.{mod-le, div-le_self, le_trans, le_antisymm}
use native.Mathlib.Decide.{ℕ_discrete}
use native.Mathlib.Omega.{arith}
use borrow.Author.Tests.{ltb-true}
use lib.Dec.{ltb}
use lib.ListN.{length, get_or, set, length-set}
use lib.Seq.{get_or-set_same, get_or-set_other}
use Rattle.monotone.specs.Field.{◌⊑◌}
use Rattle.monotone.specs.Links.{pull}
use Rattle.monotone.specs.Rule as theory
use Rattle.monotone.specs.Linear.{Positive}
use Rattle.monotone.proofs.Order.{⊑_refl, raise_under}
use Rattle.monotone.proofs.Compare.{pos_right}
use Rattle.model.specs.Integers.{negative}
use Rattle.model.specs.Gauge.{Gauge}
use Rattle.model.specs.Film.{Film, size_of, system_of, rule, row_of, column_of, diagonal_at, right_at, up_at, source_at, link_if, beside, across, neighbours, pull_of, slack_of, slack, Least}
use Rattle.model.specs.Coefficients.{formed}
use Rattle.model.specs.Reynolds.{reynolds}
use Rattle.model.specs.Relaxation.{required}
use Rattle.model.proofs.Sides.{pull_append}
use Rattle.model.proofs.Slacks.{required_slack, rule_monotone, feasible_to, feasible_from, least_feasible}
use Rattle.model.proofs.Reynolds.{reynolds_slack}

-- no cell pulls itself, on any side
own_side : (b : Bool) (j k i v : ℕ) (p : List ℕ) → (b ≡ true → j ≢ i)
    → pull (link_if b j k) (λ x. get_or (set p i v) x 0) ≡ pull (link_if b j k) (λ x. get_or p x 0)
own_side true j k i v p h = ap (λ (n : ℕ). k * n + 0) (get_or-set_other p i j v 0 (h refl))
own_side false j k i v p h = refl

own_pull : (f : Film) (p : List ℕ) (i v : ℕ) → 0 < f.columns → pull_of f (set p i v) i ≡ pull_of f p i
unfolding neighbours beside across
own_pull f p i v some =
    let left = own_side (ltb 0 (column_of f i)) (i - 1) (right_at f (i - 1)) i v p (λ t e. omega (arith, ltb-true 0 (column_of f i) t, mod-le i f.columns)) in
    let right = own_side (ltb (column_of f i + 1) f.columns) (i + 1) (right_at f i) i v p (λ t e. omega arith) in
    let down = own_side (ltb 0 (row_of f i)) (i - f.columns) (up_at f (i - f.columns)) i v p (λ t e. omega (arith, ltb-true 0 (row_of f i) t, div-le_self i f.columns)) in
    let up = own_side (ltb (row_of f i + 1) f.rows) (i + f.columns) (up_at f i) i v p (λ t e. omega arith) in
    simp pull_append (λ j. left j + right j + (down j + up j))

-- Document 01: "the least whole number, not below 0, that makes its spare at least 0 with the others fixed", of the field itself: ..
pub required_is_least : (f : Film) (p : List ℕ) (i v : ℕ) → 0 < f.columns → 0 < diagonal_at f i → i < length p
    → (negative (slack f (set p i v) i) ≡ false) ↔ (required f p i ≤ v)
required_is_least f p i v some d h =
    let same : slack f (set p i v) i ≡ slack_of (diagonal_at f i) (pull_of f p i) (source_at f i) v =
    λ j. slack_of (diagonal_at f i) (own_pull f p i v some j) (source_at f i) (get_or-set_same p i v 0 h j) in
    let r = required_slack (diagonal_at f i) (pull_of f p i) (source_at f i) v d in
    (λ e. r.0 (ap negative (sym same) ∙ e), λ l. ap negative same ∙ r.1 l)

-- .. a relaxation finds the least pressure of the cell at which Reynolds' difference form leaves nothing below 0.
pub required_reynolds : (g : Gauge) (p : List ℕ) (i v : ℕ) → 0 < diagonal_at (formed g) i → i < g.rows * g.columns → i < length p
    → (negative (reynolds g (set p i v) (i / g.columns + 1) (i % g.columns + 1)) ≡ false) ↔ (required (formed g) p i ≤ v)
required_reynolds g p i v d b h =
    let r = required_is_least (formed g) p i v (pos_right g.rows g.columns b) d h in
    let e = reynolds_slack g (set p i v) i b in
    (λ n. r.0 (ap negative e ∙ n), λ l. ap negative (sym e) ∙ r.1 l)

-- In the least field every cell has just what it requires: the complementarity problem's p · w = 0, in whole steps. A cell with more could be
-- lowered to what it requires, and the field would still be feasible.
pub least_required : (f : Film) (P : Positive (system_of f)) (q : List ℕ) → Least f q → (i : ℕ) → i < size_of f → get_or q i 0 ≡ required f q i
least_required f P q L i b =
    let M = feasible_to f P (least_feasible f P L) in
    let v : ℕ = required f q i in
    let z : List ℕ = set q i v in
    let at_i : get_or z i 0 ≡ v = get_or-set_same q i v 0 (omega (arith, L.len)) in
    let down : z ⊑ q = raise_under i v (⊑_refl q) (M.met i b) in
    let met : (j : ℕ) → j < size_of f → (rule f).required z j ≤ get_or z j 0 = λ j l.
    elim (ℕ_discrete j i) [
      | yes e ↦ rw (e, at_i) ((rule_monotone f P).mono down i b)
      | no n ↦ rw (get_or-set_other q i j v 0 n) (le_trans ((rule_monotone f P).mono down j l) (M.met j l))
    ] in
    let Z : theory.Feasible (rule f) z =
    record {
      bounded = record { len = length-set q i v ∙ L.len; low = λ j. le_trans (down.at j) (M.bounded.low j) };
      met = met;
    } in
    le_antisymm (omega (arith, L.under i b z (feasible_from f P Z), at_i)) (M.met i b)
