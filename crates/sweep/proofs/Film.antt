-- Where the links that leave the grid are 0, a sweep by index over a table of the film's cells is the film's own.
use mathlib.Core.Path.{◌≡◌, refl, sym, ap, ◌∙◌}
use mathlib.Core.List.{List}
use Prim.Native.Nat.{ℕ, ◌<◌}
use lib.ListN.{length}
use Rattle.monotone.specs.Sweep.{Swept as End, begin, sweep}
use Rattle.monotone.proofs.Agree.{sweep_agrees}
use Rattle.model.specs.Film.{Film, size_of, rule}
use Rattle.grid.specs.Pull.{Aligned, Edges}
use Rattle.grid.proofs.Neighbours.{pull_is}
use Rattle.relaxation.specs.Rule.{required_by, rule_by}
use Rattle.sweep.specs.Sweep.{Listed, order_in, Ends}
use Rattle.sweep.specs.declared.Swept.{Swept}

-- a table of n cells lists as many as it has places
pub listed_all : {table : List ℕ} {n : ℕ} → Listed table n → Listed table (length table)
listed_all L = record { len = refl; cells = λ k h. rw L.len (L.cells k h) }

-- coefficients serve every field of that length
pub aligned_long : {f : Film} {p q : List ℕ} → length q ≡ length p → Aligned f p → Aligned f q
aligned_long e A =
    record {
      right = record { len = A.right.len ∙ sym e; small = A.right.small };
      up = record { len = A.up.len ∙ sym e; small = A.up.small };
      diagonals_len = A.diagonals_len ∙ sym e;
      sources_len = A.sources_len ∙ sym e;
      cell = λ i h. A.cell i (rw e at h);
    }

module _ {f : Film} (e : Edges f) where
  required_is : (p : List ℕ) (i : ℕ) → i < size_of f → required_by f p i ≡ (rule f).required p i
  unfolding required_by
  required_is p i h = rw (pull_is f p e i h)

  module _ {table : List ℕ} (L : Listed table (size_of f)) (some : 0 < size_of f) where
    agrees : (budget : ℕ) (p : List ℕ)
        → sweep (rule_by (length table) f) (order_in table) budget (begin p) ≡ sweep (rule f) (order_in table) budget (begin p)
    agrees budget p =
        rw L.len
        (sweep_agrees (size_of f) f.ceiling (required_by f) (rule f).required (order_in table) (order_in table) (λ k h. refl)
        (λ k h. L.cells k (rw L.len h)) required_is budget (begin p) some)

    own : {budget : ℕ} {p : List ℕ} {r : Swept} {exit : List ℕ} → Ends (rule_by (length table) f) table budget p r exit
        → Ends (rule f) table budget p r exit
    own {budget} {p} E =
        let a = agrees budget p in
        record {
          answer = E.answer ∙ ap (λ (s : End). s.answer) a;
          visits = E.visits ∙ ap (λ (s : End). s.last.visits) a;
          raises = E.raises ∙ ap (λ (s : End). s.last.raises) a;
          field = E.field ∙ ap (λ (s : End). s.last.field) a;
        }

-- of a table of as many cells as a field has
pub ends_own : {f : Film} {table p : List ℕ} {budget : ℕ} {r : Swept} {exit : List ℕ} → Listed table (length p) × (0 < length p)
    → Ends (rule_by (length table) f) table budget p r exit → Edges f → length p ≡ size_of f → Ends (rule f) table budget p r exit
ends_own L E e n = own e (rw n at L.0) (rw n at L.1) E
