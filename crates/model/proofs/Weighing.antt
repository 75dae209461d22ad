-- Found weights (document 02, W5). The search is a run on a film whose slacks are the weighted row sums less 1. So Done holds the least numbers whose
-- weighted row sums are all at least 1, and after Over there are none up to 65,535; and with found weights a film passes every call's tests.
use mathlib.Core.Path.{◌≡◌, refl, sym, ap, ap₂, ◌∙◌, subst}
use mathlib.Core.Bool.{Bool, false}
use mathlib.Core.List.{List}
use Prim.Native.Nat.{ℕ, ◌+◌, ◌-◌, ◌*◌, ◌≤◌, ◌<◌, zero-le}
use native.Mathlib.Nat.{add-zero, mul-add, mul-pos}
use native.Mathlib.Decide.{dec_le}
use native.Mathlib.Omega.{arith}
use borrow.Author.Tests.{leb-false, lt-ltb, le-ltb, le-leb, lt-leb}
use lib.Dec.{leb, ltb}
use lib.IntN.{ℤ, pos, negsuc, ◌-ℤ◌}
use lib.ListN.{length, get_or, replicate, get_or-replicate, get_or-eq_default}
use Rattle.monotone.specs.Linear.{Positive}
use Rattle.monotone.specs.Outcome.{Outcome}
use Rattle.monotone.specs.Sweep as sweeps
use Rattle.monotone.proofs.Compare.{pull_add, pos_right, compare}
use Rattle.monotone.proofs.Sweep.{sweep_outcome, done_least, over_none}
use Rattle.monotone.proofs.History.{zeros_under, zeros_bounded}
use Rattle.model.specs.Limits.{weight_limit}
use Rattle.model.specs.Lists.{tabulate}
use Rattle.model.specs.Integers.{negative, at_most_zero}
use Rattle.model.specs.Refusals.{pass, fail}
use Rattle.model.specs.Film.{Film, size_of, weighted, diagonal_at, source_at, pull_of, beside, across, neighbours, slack_of, slack, system_of, rule}
use Rattle.model.specs.Checks.{not_dominant}
use Rattle.model.specs.Accepted.{Limited, Accepted}
use Rattle.model.specs.Result.{Result}
use Rattle.model.specs.Run.{RunAnswer, end_of, ended, ordering, readied, run}
use Rattle.model.specs.Weighing.{weighing, search_budget, weight_search, found_weights, searched_check, search_check, Weights, SignedWeights, LeastWeights}
use Rattle.model.specs.declared.Counts.{Counts}
use Rattle.model.proofs.Integers.{by_order, sub_source, sub_sub, at_most_zero_sub}
use Rattle.model.proofs.Lists.{tabulate_length, tabulate_at}
use Rattle.model.proofs.Slacks.{slack_negative, slack_at_most_zero, required_slack, bounded_cells, rule_monotone}
use Rattle.model.proofs.Run.{order_permutes}

-- weights that stand for those to be found
abbrev pub ones : ℕ → List ℕ
ones n = tabulate n (λ i. 1)

-- the limits of a film's coefficients do not look at its weights
pub limited_weighted : (f : Film) (w : List ℕ) → length w ≡ size_of f → Limited f → Limited (weighted f w)
limited_weighted f w e L =
    let s = L.sized in
    record {
      sized =
          record {
            rows_some = s.rows_some;
            rows_low = s.rows_low;
            columns_some = s.columns_some;
            columns_low = s.columns_low;
            ceiling_some = s.ceiling_some;
            ceiling_low = s.ceiling_low;
            weights_len = e;
            diagonals_len = s.diagonals_len;
            rights_len = s.rights_len;
            ups_len = s.ups_len;
            sources_len = s.sources_len;
          };
      cell = λ i h. let c = L.cell i h in
          record {
            diagonal_some = c.diagonal_some;
            diagonal_low = c.diagonal_low;
            right_low = c.right_low;
            up_low = c.up_low;
            right_edge = c.right_edge;
            up_edge = c.up_edge;
            source_low = c.source_low;
          };
    }

-- ---- slacks of the film that weights are searched on

below_next : (a b : ℕ) → ltb a (b + 1) ≡ leb a b
below_next a b = by_order b a (λ l. rw (le-ltb a (b + 1) (omega arith), lt-leb a b l)) (λ l. rw (lt-ltb a (b + 1) (omega arith), le-leb a b l))

module _ (f : Film) where
  source_is : (i : ℕ) → i < size_of f → source_at (weighing f) i ≡ negsuc 0
  source_is i h = get_or-replicate (size_of f) i (negsuc 0) (pos 0) h

  -- one is negative exactly where the weighted row sum is below 1
  slack_held : (z : List ℕ) (i : ℕ) → i < size_of f → negative (slack (weighing f) z i) ≡ not_dominant (weighted f z) i
  unfolding not_dominant neighbours beside across
  slack_held z i h =
      let d = diagonal_at f i in
      let v = get_or z i 0 in
      ap (λ s. negative (slack_of d (pull_of f z i) s v)) (source_is i h)
      ∙ slack_negative d (pull_of f z i) (negsuc 0) v
      ∙ below_next (d * v + 0) (pull_of f z i)
      ∙ ap (λ (k : ℕ). leb (d * v + 0) k) (sym (add-zero (pull_of f z i)))
      ∙ sym (slack_at_most_zero d (pull_of f z i) (pos 0) v)

  -- ---- how a search ends

  abbrev zeros : List ℕ
  zeros = replicate (size_of f) 0

  abbrev swept : sweeps.Swept
  swept = sweeps.sweep (rule (weighing f)) (ordering (weighing f) 0) search_budget (sweeps.begin zeros)

  -- it is a sweep: with proposals off nothing comes before the first relaxation
  pub search_is : weight_search f ≡ ended swept 0
  unfolding weight_search run readied
  search_is = refl

done_by : (a : sweeps.Ending) (c : Counts) → searched_check (end_of a c) ≡ pass → a ≡ sweeps.done
done_by sweeps.done c e = refl
done_by (sweeps.over i) c e = let z : ◌≡◌ {A = ℕ} 0 1 = cc in absurd (omega arith)
done_by sweeps.stopped c e = let z : ◌≡◌ {A = ℕ} 0 1 = cc in absurd (omega arith)

over_by : (a : sweeps.Ending) (c : Counts) (i : ℕ) → searched_check (end_of a c) ≡ fail 16 i → a ≡ sweeps.over i
over_by sweeps.done c i e = let z : ◌≡◌ {A = ℕ} 0 1 = cc in absurd (omega arith)
over_by (sweeps.over j) c i e = cc
over_by sweeps.stopped c i e = let z : ◌≡◌ {A = ℕ} 17 16 = cc in absurd (omega arith)

-- a film whose coefficients are within their limits, whatever weights it has
module _ (f : Film) (w : List ℕ) (L : Limited (weighted f w)) where
  pub weighing_positive : Positive (system_of (weighing f))
  weighing_positive =
      record { some = mul-pos L.sized.rows_some L.sized.columns_some; diagonal = λ i h. (L.cell i h).diagonal_some }

  outcome : Outcome (rule (weighing f)) (zeros f) search_budget (swept f)
  outcome =
      sweep_outcome _ _ (rule_monotone (weighing f) weighing_positive) (order_permutes f.columns (size_of f) 0) _ search_budget
      (zeros_bounded (rule (weighing f)))

  -- numbers whose weighted row sums are all at least 1 are those that satisfy the rule of the search
  weights_met : {z : List ℕ} → Weights f z → (i : ℕ) → i < size_of f → (rule (weighing f)).required z i ≤ get_or z i 0
  weights_met {z} H i h = (required_slack _ _ _ _ (weighing_positive.diagonal i h)).0 (slack_held f z i h ∙ H.held i h)

  met_weights : {z : List ℕ} → length z ≡ size_of f → ((i : ℕ) → i < size_of f → (rule (weighing f)).required z i ≤ get_or z i 0) → Weights f z
  met_weights {z} e m =
      record { len = e; held = λ i h. sym (slack_held f z i h) ∙ (required_slack _ _ _ _ (weighing_positive.diagonal i h)).1 (m i h) }

  -- as naturals: what a cell's weight bears is more than what the weights beside it pull
  weight_row : {z : List ℕ} → Weights f z → (i : ℕ) → i < size_of f → pull_of f z i < diagonal_at f i * get_or z i 0
  unfolding not_dominant neighbours beside across
  weight_row {z} H i h =
      omega (arith, leb-false (diagonal_at f i * get_or z i 0 + 0) (pull_of f z i + 0) (sym (slack_at_most_zero (diagonal_at f i) (pull_of f z i) (pos 0) (get_or z i 0)) ∙ H.held i h))

  row_weight : (z : List ℕ) (i : ℕ) → pull_of f z i < diagonal_at f i * get_or z i 0 → not_dominant (weighted f z) i ≡ false
  unfolding not_dominant neighbours beside across
  row_weight z i l = slack_at_most_zero (diagonal_at f i) (pull_of f z i) (pos 0) (get_or z i 0) ∙ lt-leb (diagonal_at f i * get_or z i 0 + 0) (pull_of f z i + 0) (omega arith)

  -- a weight of 0 bears nothing, so each is at least 1
  weight_some : {z : List ℕ} → Weights f z → (i : ℕ) → i < size_of f → 1 ≤ get_or z i 0
  weight_some {z} H i h = pos_right (diagonal_at f i) (get_or z i 0) {a = pull_of f z i} (weight_row H i h)

  -- Numbers that may be below 0 and hold are nowhere below 0, by the comparison principle; so they are numbers as above.
  module _ {v : List ℕ} (H : Weights f v) (least : (z : List ℕ) → Weights f z → (i : ℕ) → i < size_of f → get_or v i 0 ≤ get_or z i 0) (a b : List ℕ) (S : SignedWeights f a b) where
    above : (i : ℕ) → i < size_of f → diagonal_at f i * get_or b i 0 + pull_of f a i < diagonal_at f i * get_or a i 0 + pull_of f b i
    unfolding neighbours beside across
    above i h =
        let d = diagonal_at f i in
        let difference : ℤ → ℤ → Bool = λ x y. at_most_zero (x -ℤ y) in
        let same =
        ap₂ difference (sub_source (d * get_or a i 0) (pull_of f a i) (pos 0)) (sub_source (d * get_or b i 0) (pull_of f b i) (pos 0))
        ∙ ap at_most_zero (sub_sub (d * get_or a i 0 + 0) (pull_of f a i + 0) (d * get_or b i 0 + 0) (pull_of f b i + 0))
        ∙ at_most_zero_sub (d * get_or a i 0 + 0 + (pull_of f b i + 0)) (pull_of f a i + 0 + (d * get_or b i 0 + 0)) in
        omega (arith, leb-false (d * get_or a i 0 + 0 + (pull_of f b i + 0)) (pull_of f a i + 0 + (d * get_or b i 0 + 0)) (sym same ∙ S.held i h))

    never_below : (i : ℕ) → get_or b i 0 ≤ get_or a i 0
    never_below =
        compare (size_of f) (neighbours f) (diagonal_at f) (λ i. get_or v i 0) (weight_row H) (λ i. get_or b i 0) (λ i. get_or a i 0)
        (λ i o. rw (get_or-eq_default b 0 {n = i} (omega (arith, S.b_len))) zero-le) (λ i h l. omega (arith, above i h))

    abbrev rest : List ℕ
    rest = tabulate (size_of f) (λ i. get_or a i 0 - get_or b i 0)

    rest_at : (i : ℕ) → i < size_of f → get_or rest i 0 ≡ get_or a i 0 - get_or b i 0
    rest_at i h = tabulate_at (size_of f) (λ i. get_or a i 0 - get_or b i 0) 0 i h

    parts : (i : ℕ) → get_or a i 0 ≡ get_or b i 0 + get_or rest i 0
    parts i =
        elim (dec_le (size_of f) i) [
          | yes o ↦
              let x = get_or-eq_default a 0 {n = i} (omega (arith, S.a_len)) in
              let y = get_or-eq_default b 0 {n = i} (omega (arith, S.b_len)) in
              let z = get_or-eq_default rest 0 {n = i} (omega (arith, tabulate_length (size_of f) (λ i. get_or a i 0 - get_or b i 0))) in
              omega (arith, x, y, z)
          | no o ↦ omega (arith, never_below i, rest_at i (omega arith))
        ]

    rest_holds : Weights f rest
    rest_holds = record { len = tabulate_length _ _; held = λ i h. row_weight rest i (row i h) }
      where
        row : (i : ℕ) → i < size_of f → pull_of f rest i < diagonal_at f i * get_or rest i 0
        row i h =
            let d = diagonal_at f i in
            let mine : d * get_or a i 0 ≡ d * (get_or b i 0 + get_or rest i 0) = ap (λ (k : ℕ). d * k) (parts i) in
            omega (arith, above i h, mine, mul-add d (get_or b i 0) (get_or rest i 0), pull_add (neighbours f i) (λ j. get_or a j 0) (λ j. get_or b j 0) (λ j. get_or rest j 0) parts)

    signed_under : (i : ℕ) → i < size_of f → get_or v i 0 + get_or b i 0 ≤ get_or a i 0
    signed_under i h = omega (arith, least rest rest_holds i h, rest_at i h, never_below i)

  -- Found weights are the least numbers whose weighted row sums are all at least 1, and lie from 1 to 65,535.
  pub found_least : search_check f ≡ pass → LeastWeights f (found_weights f)
  found_least e =
      subst (λ (r : Result RunAnswer). LeastWeights f r.lent) (sym (search_is f))
      (let M = done_least outcome (done_by (swept f).answer _ (rw (search_is f) at e)) in
      let H : Weights f (swept f).last.field = met_weights M.feasible.bounded.len M.feasible.met in
      record {
        holds = H;
        some = weight_some H;
        low = M.feasible.bounded.low;
        under = swept_under;
        under_signed = signed_under H swept_under;
      })
    where
      swept_under : (z : List ℕ) → Weights f z → (i : ℕ) → i < size_of f → get_or (swept f).last.field i 0 ≤ get_or z i 0
      swept_under z K i h = (outcome.risen.rises.under z (record { len = K.len; met = weights_met K }) (zeros_under (rule (weighing f)) z)).at i

  -- 16 only if no weights from 1 to 65,535 do it.
  pub none_found : (i : ℕ) → search_check f ≡ fail 16 i → (z : List ℕ) → Weights f z → ((j : ℕ) → j < size_of f → get_or z j 0 ≤ weight_limit) → ⊥
  none_found i e z K low =
      over_none outcome i (over_by (swept f).answer _ i (rw (search_is f) at e)) z
      (record { bounded = bounded_cells K.len low; met = weights_met K }) (zeros_under (rule (weighing f)) z)

  -- With found weights a film is accepted by every call.
  pub found_accepted : search_check f ≡ pass → Accepted (weighted f (found_weights f))
  unfolding not_dominant
  found_accepted e =
      let M = found_least e in
      record { limited = limited_weighted (weighted f w) (found_weights f) M.holds.len L; weight = M.some; dominant = M.holds.held }

-- what is claimed of found weights does not look at the weights that a film has
pub least_weighted : {f : Film} {w : List ℕ} (v : List ℕ) → LeastWeights f w → LeastWeights (weighted f v) w
least_weighted v M =
    record {
      holds = record { len = M.holds.len; held = M.holds.held };
      some = M.some;
      low = M.low;
      under = λ z K. M.under z (record { len = K.len; held = K.held });
      under_signed = λ a b S. M.under_signed a b (record { a_len = S.a_len; b_len = S.b_len; held = S.held });
    }
