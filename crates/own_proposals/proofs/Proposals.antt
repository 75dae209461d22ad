-- The proposals before a run's relaxations, line by line.
use mathlib.Core.Path.{◌≡◌, refl, sym, ap, ◌∙◌, subst}
use mathlib.Core.Bool.{Bool, true, false}
use mathlib.Core.List.{List}
use mathlib.Core.Logic.{◌⊎◌, inl, inr}
use Prim.Native.Nat.{ℕ, zero, suc, ◌+◌, ◌-◌, ◌*◌, ◌≤◌, zero-le}
use native.Mathlib.Nat.{zero-add}
use native.Mathlib.Omega.{arith}
use Rattle.std.specs.Prelude.{Option, None, Some, unwrap_or}
use Rattle.monotone.specs.Rule.{Bounded}
use Rattle.model.specs.Film.{Film, rule}
use Rattle.model.specs.Accepted.{Accepted}
use Rattle.model.specs.Result.{Gives}
use Rattle.model.specs.Proposal.{ProposalAnswer, proposed_of, line_start, raised_by, rises, rise_count, accepts, decided, propose}
use Rattle.model.specs.Estimate.{estimate}
use Rattle.model.specs.Run.{Readied, cells_of, propose_own, propose_lines, readied}
use Rattle.model.proofs.Lists.{count_bound}
use Rattle.model.proofs.Run.{lines_rise}
use Rattle.own_proposals.specs.Readies.{from, Readies}

-- how many cells a proposal raised, as the code has its answer
pub cells_in : (o : Option ℕ) → unwrap_or o 0 ≡ cells_of (proposed_of o)
cells_in None = refl
cells_in (Some n) = refl

module _ (f : Film) where
  -- one line's proposal, from the estimate that was written and the decision that was made
  pub own_gives : (p : List ℕ) (line start : ℕ) (proposal : List ℕ) (a : ProposalAnswer) (c : ℕ) (exit : List ℕ) → start ≡ line_start f line
      → proposal ≡ estimate f p start → Gives (propose f start proposal p) a exit → c ≡ cells_of a → Readies (propose_own f line (from p)) c exit
  unfolding propose_own
  own_gives p line start proposal a c exit s o G e =
      let H : Gives (propose f (line_start f line) (estimate f p (line_start f line)) p) a exit = rw (o, s) at G in
      record { accepted_is = e ∙ ap cells_of H.answer_is ∙ sym (zero-add _); field_is = H.lent_is }

  -- a line has no more cells to raise than columns
  own_low : (line : ℕ) (p : List ℕ) → (propose_own f line (from p)).accepted ≤ f.columns
  unfolding propose_own propose rise_count
  own_low line p = go (accepts f (line_start f line) p q)
    where
      q : List ℕ
      q = raised_by f (line_start f line) (estimate f p (line_start f line)) p

      go : (t : Bool) → 0 + cells_of (decided t f (line_start f line) p q).answer ≤ f.columns
      go true = omega (arith, count_bound (λ j. rises p q (line_start f line + j)) f.columns)
      go false = omega arith

  -- what has been proposed in the first lines
  pub record Proposing (p₀ p : List ℕ) (accepted line : ℕ) : Type 0 where
    pub so_far : Readies (propose_lines f line (from p₀)) accepted p
    pub low : accepted ≤ line * 32

  pub proposing_begin : (p : List ℕ) → Proposing p p 0 0
  unfolding propose_lines
  proposing_begin p = record { so_far = record { accepted_is = refl; field_is = refl }; low = zero-le }

  own_after : (line : ℕ) (s : Readied) → (propose_own f line s).accepted ≡ s.accepted + (propose_own f line (from s.field)).accepted
  unfolding propose_own
  own_after line s = ap (λ (n : ℕ). s.accepted + n) (sym (zero-add _))

  own_field : (line : ℕ) (s : Readied) → (propose_own f line s).field ≡ (propose_own f line (from s.field)).field
  unfolding propose_own
  own_field line s = refl

  pub proposing_next : (p₀ p : List ℕ) {accepted more : ℕ} (line : ℕ) (exit : List ℕ) → f.columns ≤ 32 → 1 ≤ line → Proposing p₀ p accepted (line - 1)
      → Readies (propose_own f line (from p)) more exit → Proposing p₀ exit (accepted + more) line
  unfolding propose_lines
  proposing_next p₀ p zero exit w h P R = absurd (omega arith)
  proposing_next p₀ p {accepted} (suc k) exit w h P R =
      let before : suc k - 1 ≡ k = omega arith in
      let Q : Proposing p₀ p accepted k = rw before at P in
      let s = propose_lines f k (from p₀) in
      let a : accepted ≡ s.accepted = Q.so_far.accepted_is in
      let g : p ≡ s.field = Q.so_far.field_is in
      record {
        so_far = record {
          accepted_is = sym (own_after (suc k) s ∙ ap (λ (n : ℕ). n + (propose_own f (suc k) (from s.field)).accepted) (sym a)
              ∙ ap (λ (x : List ℕ). accepted + (propose_own f (suc k) (from x)).accepted) (sym g)
              ∙ ap (λ (n : ℕ). accepted + n) (sym R.accepted_is));
          field_is = R.field_is ∙ ap (λ (x : List ℕ). (propose_own f (suc k) (from x)).field) g ∙ sym (own_field (suc k) s);
        };
        low = omega (arith, Q.low, R.accepted_is, own_low (suc k) p);
      }

  module _ (A : Accepted f) (p₀ p : List ℕ) (accepted line : ℕ) (P : Proposing p₀ p accepted line) (B : Bounded (rule f) p₀) where
    pub proposing_bounded : Bounded (rule f) p
    proposing_bounded = rw P.so_far.field_is (lines_rise f A line (from p₀) B).bounded

  pub proposing_done : (p₀ p : List ℕ) (accepted line : ℕ) → Proposing p₀ p accepted line → line ≡ f.rows
      → Readies (propose_lines f f.rows (from p₀)) accepted p
  proposing_done p₀ p accepted line P e = subst (λ (n : ℕ). Readies (propose_lines f n (from p₀)) accepted p) e P.so_far

  -- before the relaxations
  pub ready_same : (budget : ℕ) (on : Bool) (p : List ℕ) → (budget ≡ 0) ⊎ ((budget ≡ 0 → ⊥) × (on ≡ false)) → Readies (readied f budget on p) 0 p
  unfolding readied
  ready_same budget on p (inl e) = rw e (record { accepted_is = refl; field_is = refl })
  ready_same zero on p (inr (n, e)) = record { accepted_is = refl; field_is = refl }
  ready_same (suc b) on p (inr (n, e)) = rw e (record { accepted_is = refl; field_is = refl })

  pub ready_on : (budget : ℕ) (on : Bool) (p : List ℕ) (accepted : ℕ) (exit : List ℕ) → (budget ≡ 0 → ⊥) → on ≡ true
      → Readies (propose_lines f f.rows (from p)) accepted exit → Readies (readied f budget on p) accepted exit
  unfolding readied
  ready_on zero on p accepted exit n e R = absurd (n refl)
  ready_on (suc b) on p accepted exit n e R = rw e R
