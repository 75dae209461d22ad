-- Backwards along a line: the solution in each cell from the end of the row on, and what is proposed there.
use mathlib.Core.Path.{◌≡◌, refl, sym, ◌∙◌}
use mathlib.Core.Bool.{true, false}
use mathlib.Core.List.{List}
use Prim.Native.Nat.{ℕ, suc, ◌+◌, ◌-◌, ◌*◌, ◌≤◌, ◌<◌}
use native.Mathlib.Nat.{le_antisymm}
use native.Mathlib.Decide.{dec_lt}
use native.Mathlib.Omega.{arith}
use lib.Ieee.{Float}
use lib.ListN.{length, get_or, set, replicate}
use lib.Seq.{get_or-set_same, get_or-set_other}
use Rattle.std.specs.Prelude.{Option, None}
use Rattle.model.specs.Film.{Film, right_at, weight_at}
use Rattle.model.specs.Margin.{margin}
use Rattle.model.specs.Estimate.{float_of, is_broken, substitute, whole_part, eliminated, solved, estimate_at, estimate}
use Rattle.std.proofs.lemmas.List.{length-replicate, get_or-replicate}
use Rattle.model.proofs.Lists.{tabulate_is}
use Rattle.chain.specs.declared.Elimination.{Elimination}
use Rattle.chain.specs.declared.Elimination.TheVariants.{Idle}
use Rattle.chain.specs.Line.{elimination_of}
use Rattle.elimination.specs.Line.{Eliminated}
use Rattle.substitution.specs.Line.{solution_of}

module _ (f : Film) (p : List ℕ) (start : ℕ) where
  -- the solution in column j, from that in the column after it
  solved_at : (j n : ℕ) → n + suc j ≡ f.columns
      → solved f p start (suc n) ≡ substitute (eliminated f p start (suc j)) (float_of (right_at f (start + j))) (solved f p start n)
  unfolding solved
  solved_at j n e =
      let a : f.columns - n ≡ suc j = omega arith in
      let b : f.columns - suc n ≡ j = omega arith in
      rw (a, b)

  -- what is proposed in column k of a line that did not break
  abbrev proposed_at : ℕ → ℕ
  proposed_at k = whole_part (solved f p start (f.columns - k)) - margin f * weight_at f (start + k)

  -- The loop: n columns are left, and those from n on hold document 01's proposals.
  pub record Returning (n : ℕ) (proposal : List ℕ) (next : Option Float) : Type 0 where
    pub next_is : solution_of next ≡ solved f p start (f.columns - n)
    pub written : (k : ℕ) → n ≤ k → k < f.columns → get_or proposal k 0 ≡ proposed_at k

  pub returning_begin : {n : ℕ} {proposal : List ℕ} → f.columns ≡ n → Returning n proposal None
  unfolding solved
  returning_begin {n} e = let z : f.columns - n ≡ 0 = omega arith in record { next_is = rw z; written = λ k h l. absurd (omega arith) }

  -- one column more
  pub returning_next : {n K number weight v : ℕ} {proposal : List ℕ} {steps : List Elimination} {next : Option Float} {link : Float} (here : Option Float)
      → Returning n proposal next → 0 < n → n ≤ length proposal → f.columns ≡ length proposal → margin f ≡ K → Eliminated f p start false steps
      → link ≡ float_of (right_at f (start + (n - 1)))
      → solution_of here ≡ substitute (elimination_of (get_or steps (n - 1) Idle)) link (solution_of next)
      → number ≡ whole_part (solution_of here) → weight ≡ weight_at f (start + (n - 1)) → v ≡ number - K * weight
      → Returning (n - 1) (set proposal (n - 1) v) here
  returning_next {n} {v = v} {proposal = proposal} here R b h l m E link s number weight w =
      let i : ℕ = n - 1 in
      let step : elimination_of (get_or _ i Idle) ≡ eliminated f p start (suc i) = (E.kept refl).step i (omega arith) in
      let before : f.columns - i ≡ suc (f.columns - n) = omega arith in
      let e : solution_of here ≡ solved f p start (f.columns - i) = rw (s, link, step, R.next_is, before, solved_at i (f.columns - n) (omega arith)) in
      record {
        next_is = e;
        written = λ k c d. elim (dec_lt i k) [
          | yes a ↦ get_or-set_other proposal i k v 0 (λ z. omega arith) ∙ R.written k (omega arith) d
          | no a ↦ let z : k ≡ i = le_antisymm (omega arith) c in rw (z, get_or-set_same proposal i v 0 (omega arith), w, number, weight, ← m, e)
        ];
      }

  -- a line that did not break offers what document 01 says
  pub returning_done : {n : ℕ} {proposal : List ℕ} {next : Option Float} {steps : List Elimination} → Returning n proposal next → n ≤ 0
      → f.columns ≡ length proposal → Eliminated f p start false steps → proposal ≡ estimate f p start
  unfolding estimate
  returning_done {proposal = proposal} R z l E = tabulate_is f.columns (estimate_at f p start) 0 proposal (sym l) (λ i h. R.written i (omega arith) h ∙ sym (shown i))
    where
      shown : (i : ℕ) → estimate_at f p start i ≡ proposed_at i
      shown i = rw (sym E.broken)

  -- a broken line offers zeros
  pub broken_zeros : {n : ℕ} → n ≡ f.columns → is_broken (eliminated f p start f.columns) ≡ true → replicate n 0 ≡ estimate f p start
  unfolding estimate
  broken_zeros {n} e u =
      tabulate_is f.columns (estimate_at f p start) 0 (replicate n 0) (length-replicate n 0 ∙ e)
      (λ i h. get_or-replicate n i 0 0 (omega arith) ∙ sym (none i))
    where
      none : (i : ℕ) → estimate_at f p start i ≡ 0
      none i = rw u
