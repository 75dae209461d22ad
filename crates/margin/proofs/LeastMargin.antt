-- The film's margin K: what the code finds in a cell is what the cell asks, and K is the least that document 01 asks for.
use mathlib.Core.Path.{◌≡◌, refl, ap, ◌∙◌}
use mathlib.Core.Bool.{false, true≢false}
use mathlib.Core.List.{List, []}
use Prim.Native.Nat.{ℕ, zero, suc, ◌*◌, ◌≤◌, ◌<◌, ◌^◌}
use native.Mathlib.Nat.{mul_comm}
use native.Mathlib.Omega.{arith}
use lib.IntN.{ℤ, pos, negsuc}
use lib.ListN.{take, replicate, length-replicate, get_or, get_or-replicate}
use lib.Seq.{length-take-le, get_or-take}
use mir.Syntax.{w64}
use mir.Val.{SFits}
use Rattle.monotone.proofs.Linear.{required_enough, required_least}
use Rattle.model.specs.Integers.{positive_part, at_most_zero}
use Rattle.model.specs.declared.Head.{Head}
use Rattle.model.specs.Film.{Film, film_of, size_of, diagonal_at, beside, across, neighbours, slack_of, dominance}
use Rattle.model.specs.Accepted.{Limited, Accepted}
use Rattle.model.specs.Margin.{inside, margin_at, margin}
use Rattle.model.proofs.Lists.{greatest_above, greatest_least}
use Rattle.cell.specs.Cell.{Bounded}
use Rattle.grid.specs.Pull.{pull_by}
use Rattle.grid.proofs.Neighbours.{pull_is}
use Rattle.grid.proofs.Limited.{limited_links, edges_anyhow}
use Rattle.margin.specs.Margin.{Ones}
use Rattle.margin.proofs.Inside.{inside_is, inside_low}

-- the first n of an array of ones
pub ones_prefix : (n m : ℕ) → n ≤ m → Ones n (take n (replicate m 1))
ones_prefix n m h =
    record {
      len = length-take-le n (replicate m 1) (rw (length-replicate {A = ℕ} m 1) h);
      one = λ k l. get_or-take n (replicate m 1) k 0 l ∙ get_or-replicate m k 1 0 (omega arith);
    }

-- a number that is not at most 0
above_zero : (z : ℤ) → at_most_zero z ≡ false → (z ≡ pos (positive_part z)) × (0 < positive_part z)
above_zero (pos zero) e = absurd (true≢false e)
above_zero (pos (suc n)) e = (refl, omega arith)
above_zero (negsuc n) e = absurd (true≢false e)

positive_fits : (z : ℤ) → SFits w64 z → positive_part z ≤ 2 ^ 63
positive_fits (pos n) h = omega arith
positive_fits (negsuc n) h = omega arith

module _ {f : Film} (A : Accepted f) {i : ℕ} (b : i < size_of f) where
  -- an accepted film's dominance is a whole number of at least 1
  pub dominance_whole : dominance f i ≡ pos (positive_part (dominance f i))
  dominance_whole = (above_zero (dominance f i) (A.dominant i b)).0

  pub dominance_some : 0 < positive_part (dominance f i)
  dominance_some = (above_zero (dominance f i) (A.dominant i b)).1

-- the cell whose slack is the dominance
pub dominance_bounded : {f : Film} → Limited f → {i pull : ℕ} → i < size_of f → pull ≤ 2 ^ 60
    → Bounded (record { diagonal = diagonal_at f i; pull = pull; source = pos 0 })
dominance_bounded l {i} b h =
    let c = l.cell i b in
    record { some = c.diagonal_some; diagonal = omega (arith, c.diagonal_low); pull = h; positive = omega arith; negative = omega arith }

-- What the code finds in a cell of a film that is accepted, whatever its sources are.
module _ (f : Film) {sources : List ℤ} (A : Accepted (record f { sources = sources })) {i : ℕ} (b : i < size_of f) where
  above : 0 < positive_part (dominance f i)
  unfolding neighbours beside across
  above = dominance_some A b

  -- from the pull of ones
  module _ {ones : List ℕ} {t : ℕ} (O : Ones (size_of f) ones) (e : t ≡ pull_by f.columns f.rights f.ups ones i) where
    pub inside_found : t ≡ inside f i
    inside_found = e ∙ pull_is f ones (edges_anyhow A.limited) i b ∙ inside_is f A.limited.sized.columns_some i b ones O.one

    pub inside_fits : t < 2 ^ 32
    inside_fits = let l = limited_links A.limited O.len in omega (arith, inside_found, inside_low f i l.0 l.1)

  -- and of weights
  module _ {weights : List ℕ} {diagonal t : ℕ} (w : weights ≡ f.weights) (d : diagonal ≡ diagonal_at f i)
      (e : t ≡ pull_by f.columns f.rights f.ups weights i) {s : ℤ} (S : s ≡ slack_of diagonal t (pos 0) (get_or weights i 0)) where
    pub dominance_is : s ≡ dominance f i
    dominance_is = S ∙ rw (d, e ∙ pull_is f weights (edges_anyhow A.limited) i b, w) refl

    module _ {r : ℕ} (R : r ≡ positive_part s) where
      pub dominance_found : r ≡ positive_part (dominance f i)
      dominance_found = R ∙ ap positive_part dominance_is

      pub dominance_fits : SFits w64 s → (0 < r) × (r ≤ 2 ^ 63)
      dominance_fits h = (rw dominance_found above, rw R (positive_fits s h))

-- Document 01: K is the least whole number, 0 included, with K × weighted row sum at least the sum of inside links at every cell.
module _ (f : Film) (A : Accepted f) where
  pub margin_enough : (i : ℕ) → i < size_of f → inside f i ≤ margin f * positive_part (dominance f i)
  unfolding margin
  margin_enough i b =
      let d = positive_part (dominance f i) in
      omega (
        arith,
        required_enough d 0 (inside f i) (margin f) (dominance_some A b) (greatest_above (margin_at f) (size_of f) i b),
        mul_comm d (margin f),
      )

  pub margin_least : (k : ℕ) → ((i : ℕ) → i < size_of f → inside f i ≤ k * positive_part (dominance f i)) → margin f ≤ k
  unfolding margin
  margin_least k h =
      greatest_least (margin_at f) (size_of f) k
      (λ i b.
      let d = positive_part (dominance f i) in
      required_least d 0 (inside f i) k (dominance_some A b) (omega (arith, h i b, mul_comm d k)))

-- what a cell asks does not depend on the sources
module _ (head : Head) (weights diagonals rights ups : List ℕ) (sources : List ℤ) where
  pub margin_at_sources : (i : ℕ)
      → margin_at (film_of head weights diagonals rights ups sources) i ≡ margin_at (film_of head weights diagonals rights ups []) i
  unfolding neighbours beside across
  margin_at_sources i = refl

-- K does not depend on the sources
module _ (head : Head) (weights diagonals rights ups : List ℕ) where
  pub margin_sources : (s t : List ℤ) → margin (film_of head weights diagonals rights ups s) ≡ margin (film_of head weights diagonals rights ups t)
  unfolding margin beside across neighbours
  margin_sources s t = refl
