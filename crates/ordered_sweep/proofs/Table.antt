-- The relaxations of a run: the table lists the film's cells in its ordering, and the end of a sweep over it is the run's answer.
use mathlib.Core.Path.{◌≡◌, refl, sym, ap, ap₂, ◌∙◌, subst}
use mathlib.Core.List.{List}
use Prim.Native.Nat.{ℕ, ◌^◌, ◌<◌}
use native.Mathlib.Nat.{mul-pos}
use native.Mathlib.Omega.{arith}
use lib.ListN.{length}
use Rattle.monotone.specs.Rule.{Rule}
use Rattle.monotone.specs.Ordering.{Permutes}
use Rattle.monotone.specs.Sweep as theory
use Rattle.monotone.proofs.Sweep.{sweep_counts}
use Rattle.monotone.proofs.Agree.{sweep_agrees}
use Rattle.model.specs.Lists.{tabulate}
use Rattle.model.specs.Film.{Film, weighted, size_of, rule}
use Rattle.model.specs.Accepted.{Limited}
use Rattle.model.specs.Result.{Gives}
use Rattle.model.specs.Run.{RunAnswer, counts_of, end_of, ended, order_of, ordering}
use Rattle.model.specs.declared.Counts.{Counts}
use Rattle.model.proofs.Lists.{tabulate_length, tabulate_at}
use Rattle.model.proofs.Run.{order_permutes}
use Rattle.sweep.specs.Sweep.{answer_of, counter_of, order_in, Listed, Ends}
use Rattle.sweep.specs.declared.Swept.{Swept}
use Rattle.ordered_sweep.specs.Counts.{counts_in}

module _ (f : Film) {w : List ℕ} (l : Limited (weighted f w)) (order : ℕ) {n columns : ℕ} {table : List ℕ} (cells : n ≡ size_of f) (wide : columns ≡ f.columns) (e : table ≡ tabulate n (order_of columns n order)) where
  filled : table ≡ tabulate (size_of f) (ordering f order)
  filled = e ∙ ap₂ (λ (n columns : ℕ). tabulate n (order_of columns n order)) cells wide

  permutes : Permutes (size_of f) (ordering f order)
  permutes = order_permutes f.columns (size_of f) order

  table_length : length table ≡ size_of f
  table_length = ap length filled ∙ tabulate_length (size_of f) (ordering f order)

  table_at : (k : ℕ) → k < size_of f → order_in table k ≡ ordering f order k
  table_at k h = rw filled (tabulate_at (size_of f) (ordering f order) 0 k h)

  table_cell : (k : ℕ) → k < size_of f → order_in table k < size_of f
  table_cell k h = rw (table_at k h) (permutes.cell k h)

  -- as a field has them
  pub cells_listed : {k : ℕ} → k ≡ size_of f → Listed table k
  cells_listed e =
      subst (λ (m : ℕ). Listed table m) (sym e) (record { len = table_length; cells = λ k h. table_cell k (rw table_length at h) })

  pub cells_some : {k : ℕ} → k ≡ size_of f → 0 < k
  cells_some e = omega (arith, e, mul-pos l.sized.rows_some l.sized.columns_some)

  -- a sweep over the table is the film's own
  film_sweep : (budget : ℕ) (p : List ℕ)
      → theory.sweep (rule f) (order_in table) budget (theory.begin p) ≡ theory.sweep (rule f) (ordering f order) budget (theory.begin p)
  film_sweep budget p =
      sweep_agrees (size_of f) f.ceiling (rule f).required (rule f).required (order_in table) (ordering f order) table_at table_cell
      (λ q i h. refl) budget (theory.begin p) (mul-pos l.sized.rows_some l.sized.columns_some)

  pub run_gives : {budget : ℕ} (accepted : ℕ) {p : List ℕ} {s : Swept} {a : RunAnswer} {exit : List ℕ} → Ends (rule f) table budget p s exit
      → a ≡ end_of (answer_of s) (counts_in (counter_of s) accepted)
      → Gives (ended (theory.sweep (rule f) (ordering f order) budget (theory.begin p)) accepted) a exit
  run_gives {budget} accepted {p} {s} E x =
      let F = film_sweep budget p in
      let counts : counts_in (counter_of s) accepted ≡ counts_of (theory.sweep (rule f) (ordering f order) budget (theory.begin p)).last accepted
      = ap₂ (λ (v r : ℕ). record { visits = v; raises = r; accepted = accepted }) (rw F at E.visits) (rw F at E.raises) in
      record {
        answer_is = x ∙ ap₂ (λ (x : theory.Ending) (c : Counts). end_of x c) (rw F at E.answer) counts;
        lent_is = rw F at E.field;
      }

-- a sweep's counts are within its budget
pub counts_low : {F : Rule} {table : List ℕ} {budget : ℕ} {p : List ℕ} {s : Swept} {exit : List ℕ} → Ends F table budget p s exit → budget < 2 ^ 32
    → ((counter_of s).visits < 2 ^ 32) × ((counter_of s).raises < 2 ^ 32)
counts_low {F} {table} {budget} {p} E h =
    let C = sweep_counts F (order_in table) budget p in
    (omega (arith, E.visits, C.few), omega (arith, E.visits, E.raises, C.few, C.some))
