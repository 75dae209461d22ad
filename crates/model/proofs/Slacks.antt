-- The bridge from signed slack to naturals; and that a film's feasible fields and least field are those of its rule in the theory.
use mathlib.Core.Path.{◌≡◌, refl, sym, ap, ◌∙◌}
use mathlib.Core.Logic.{◌↔◌, ⊎_elim}
use mathlib.Core.Bool.{true, false}
use mathlib.Core.List.{List}
use Prim.Native.Nat.{ℕ, ◌+◌, ◌*◌, ◌≤◌, ◌<◌}
use native.Mathlib.Nat.{le_antisymm}
use native.Mathlib.Omega.{arith}
use borrow.Author.Tests.{leb-true, ltb-false, le-ltb}
use lib.Dec.{leb, ltb}
use lib.IntN.{ℤ}
use lib.ListN.{length, get_or}
use lib.Seq.{ext_get_or}
use Rattle.monotone.specs.Field.{◌⊑◌}
use Rattle.monotone.specs.Rule as theory
use Rattle.monotone.specs.Linear.{Positive, Dominant}
use Rattle.monotone.proofs.Order.{⊑-cells}
use Rattle.monotone.proofs.Linear.{required_enough, required_least, linear_monotone, proposal_rises}
use Rattle.monotone.proofs.History.{least_or_none}
use Rattle.model.specs.Integers.{negative, at_most_zero, positive_part, negative_part}
use Rattle.model.specs.Film.{Film, size_of, diagonal_at, source_at, pull_of, slack_of, slack, Feasible, Least, LeastFrom, system_of, rule}
use Rattle.model.specs.Relaxation.{required_for}
use Rattle.model.proofs.Integers.{sub_source, negative_sub, at_most_zero_sub}
use Rattle.model.proofs.Lists.{get_d_low}

-- The sign of a slack: what bears a cell (diagonal × pressure and the positive part of the source) against what it has to bear (the
-- pull and the negative part of the source).
module _ (d pull : ℕ) (s : ℤ) (v : ℕ) where
  pub slack_negative : negative (slack_of d pull s v) ≡ ltb (d * v + positive_part s) (pull + negative_part s)
  slack_negative = ap negative (sub_source (d * v) pull s) ∙ negative_sub (d * v + positive_part s) (pull + negative_part s)

  pub slack_at_most_zero : at_most_zero (slack_of d pull s v) ≡ leb (d * v + positive_part s) (pull + negative_part s)
  slack_at_most_zero = ap at_most_zero (sub_source (d * v) pull s) ∙ at_most_zero_sub (d * v + positive_part s) (pull + negative_part s)

  -- what a cell requires (document 01: its need) is the least pressure whose slack is not negative
  pub required_slack : 0 < d → (negative (slack_of d pull s v) ≡ false) ↔ (required_for d pull s ≤ v)
  required_slack h = (
    λ e. required_least d (positive_part s) (pull + negative_part s) v h (ltb-false _ _ (sym slack_negative ∙ e)),
    λ l. slack_negative ∙ le-ltb _ _ (required_enough d (positive_part s) (pull + negative_part s) v h l),
  )

-- past its last cell a field counts as 0, so that the ceiling need be tested in cells only
pub bounded_cells : {F : theory.Rule} {p : List ℕ} → length p ≡ F.size → ((i : ℕ) → i < F.size → get_or p i 0 ≤ F.ceiling)
    → theory.Bounded F p
bounded_cells {F} {p} e h = record { len = e; low = get_d_low p F.size F.ceiling e h }

-- a film whose diagonals are all positive
module _ (f : Film) (P : Positive (system_of f)) where
  -- a higher field requires no less
  pub rule_monotone : theory.Monotone (rule f)
  rule_monotone = linear_monotone (system_of f) P

  -- a field meets the film exactly where it is feasible in the theory
  pub feasible_to : {p : List ℕ} → Feasible f p → theory.Feasible (rule f) p
  feasible_to m =
      record {
        bounded = bounded_cells m.len m.low;
        met = λ i h. (required_slack _ _ _ _ (P.diagonal i h)).0 (m.met i h);
      }

  pub feasible_from : {p : List ℕ} → theory.Feasible (rule f) p → Feasible f p
  feasible_from m =
      record {
        len = m.bounded.len;
        low = λ i _. m.bounded.low i;
        met = λ i h. (required_slack _ _ _ _ (P.diagonal i h)).1 (m.met i h);
      }

  -- the theory's least field is document 01's: it takes the lowest pressure of each cell itself
  pub least_is : {q : List ℕ} → theory.Least (rule f) q → Least f q
  least_is {q} L =
      record {
        len = L.feasible.bounded.len;
        under = λ i _ z m. (L.under z (feasible_to m)).at i;
        taken = λ i _. (q, feasible_from L.feasible, refl);
      }

  -- and so is its least field at or above a start
  pub least_from : {p q : List ℕ} → length p ≡ size_of f → theory.LeastAbove (rule f) p q → LeastFrom f p q
  least_from {p} {q} e L =
      record {
        meets = feasible_from L.feasible;
        above = λ i _. L.above.at i;
        under = λ i _ z m u. (L.under z (feasible_to m) (⊑-cells (size_of f) e u)).at i;
      }

  -- two least fields are the same
  pub least_one : {p q : List ℕ} → Least f p → Least f q → p ≡ q
  least_one {p} {q} A B =
      ext_get_or 0 p q (A.len ∙ sym B.len)
      (λ i h. le_antisymm (lower A B i (omega (arith, A.len))) (lower B A i (omega (arith, A.len))))
    where
      lower : {p q : List ℕ} → Least f p → Least f q → (i : ℕ) → i < size_of f → get_or p i 0 ≤ get_or q i 0
      lower A B i h = let t = B.taken i h in omega (arith, A.under i h t.0 t.1, t.2)

  -- where any field meets the film, there is a least field, and it meets the film too
  pub least_exists : {z : List ℕ} → Feasible f z → (q : List ℕ) × Least f q × Feasible f q
  least_exists {z} m =
      ⊎_elim (λ l. (l.0, least_is l.1, feasible_from l.1.feasible)) (λ n. absurd (n z (feasible_to m)))
      (least_or_none (rule f) rule_monotone)

  -- so does what document 01 calls the least field: its lowest pressures are taken by fields that meet the film, and it is the only one
  pub least_feasible : {q : List ℕ} → Least f q → Feasible f q
  least_feasible L =
      let t = L.taken 0 P.some in
      let l = least_exists t.1 in
      rw (least_one L l.1) l.2

-- A film whose weights show that its matrix is Minkowski: a field that is above p only in cells whose slack is then at most 0 is nowhere above a
-- satisfied field at or above p.
pub rule_rises : (f : Film) (w : ℕ → ℕ) → Dominant (system_of f) w → {p q : List ℕ} → theory.Bounded (rule f) q → p ⊑ q
    → ((i : ℕ) → i < size_of f → get_or p i 0 < get_or q i 0 → at_most_zero (slack f q i) ≡ true) → theory.Rises (rule f) p q
rule_rises f w D {p} {q} B up tight =
    proposal_rises (system_of f) w D B up
    (λ i b h. leb-true _ _ (sym (slack_at_most_zero (diagonal_at f i) (pull_of f q i) (source_at f i) (get_or q i 0)) ∙ tight i b h))
