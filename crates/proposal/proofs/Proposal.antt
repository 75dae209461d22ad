-- What the tests of a row say of a proposal.
use mathlib.Core.Path.{◌≡◌, refl, sym, ap, ◌∙◌}
use mathlib.Core.Bool.{Bool, true, false, ◌&&◌}
use mathlib.Core.List.{List}
use mathlib.Core.Logic.{◌⊎◌, inl, inr}
use Prim.Native.Nat.{ℕ, ◌≤◌, ◌<◌}
use borrow.Author.Tests.{lt-ltb, le-ltb}
use lib.Dec.{ltb}
use lib.ListN.{length}
use Rattle.model.specs.Lists.{tabulate}
use Rattle.model.specs.Film.{Film, size_of}
use Rattle.model.specs.Result.{Gives}
use Rattle.model.specs.Proposal.{ProposalAnswer, accepted, rejected, raised_at, raised_by, rise_count, within_ceiling, tight, accepts, decided, propose}

-- The three tests with their answers: how many cells rise, whether none exceeds the ceiling, whether those that rise are tight. The first
-- two read the film's parts: the film that has them, g, is f.
module _ {f g : Film} (v : g ≡ f) (start : ℕ) (p q : List ℕ) {cells : ℕ} {low taut : Bool}
    (n : cells ≡ rise_count g start p q) (l : low ≡ within_ceiling g start q) (t : taut ≡ tight f start p q) where
  together : ltb 0 cells && low && taut ≡ accepts f start p q
  together = rw (n, l, t, v) refl

  -- where they hold, the new field stands for the old one
  pub all_hold : {exit : List ℕ} → 0 < cells → low ≡ true → taut ≡ true → exit ≡ q
      → Gives (decided (accepts f start p q) f start p q) (accepted cells) exit
  all_hold h k m x =
      let e : ltb 0 cells && low && taut ≡ true = rw (lt-ltb _ _ h, k, m) refl in
      rw (sym together ∙ e) (record { answer_is = ap accepted (n ∙ ap (λ (f : Film). rise_count f start p q) v); lent_is = x })

  -- where one fails, nothing changes
  pub one_fails : ((0 < cells) × (low ≡ true) × (taut ≡ false)) ⊎ (((0 < cells) × (low ≡ false)) ⊎ (cells ≤ 0))
      → Gives (decided (accepts f start p q) f start p q) rejected p
  one_fails w = rw (sym together ∙ none w) (record { answer_is = refl; lent_is = refl })
    where
      none : ((0 < cells) × (low ≡ true) × (taut ≡ false)) ⊎ (((0 < cells) × (low ≡ false)) ⊎ (cells ≤ 0)) → ltb 0 cells && low && taut ≡ false
      none (inl (h, k, m)) = rw (lt-ltb _ _ h, k, m) refl
      none (inr (inl (h, k))) = rw (lt-ltb _ _ h, k) refl
      none (inr (inr h)) = rw (le-ltb _ _ h) refl

-- the decision on the new field is that on the proposal
pub propose_by : (f : Film) (start : ℕ) (proposal p : List ℕ) {q exit : List ℕ} {answer : ProposalAnswer} → length p ≡ size_of f
    → q ≡ tabulate (length p) (raised_at start proposal p) → Gives (decided (accepts f start p q) f start p q) answer exit
    → Gives (propose f start proposal p) answer exit
unfolding propose raised_by
propose_by f start proposal p n e g = rw (e, n) at g
