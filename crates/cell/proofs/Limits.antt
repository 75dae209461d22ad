-- Slack and required pressure in naturals, and that no sum passes its type.
use mathlib.Core.Path.{◌≡◌}
use Prim.Native.Nat.{ℕ, ◌*◌, ◌≤◌, ◌<◌, ◌^◌}
use native.Mathlib.Nat.{mul-le-mul}
use native.Mathlib.Decide.{dec_le}
use native.Mathlib.Omega.{arith}
use borrow.Author.Tests.{le-leb, lt-leb}
use lib.IntN.{ℤ, pos, negsuc, sub_ℕ}
use mir.Syntax.{w64}
use mir.Val.{SFits, to_z, of_z}
use mir.Facts.{to_z-of_z}
use Rattle.monotone.proofs.Linear.{required_enough, required_least}
use Rattle.model.specs.Integers.{positive_part, negative_part}
use Rattle.model.specs.Film.{slack_of}
use Rattle.model.specs.Relaxation.{required_for}
use Rattle.model.proofs.Integers.{sub_source}
use Rattle.pointwise.specs.Relaxation.{raise_to}
use Rattle.cell.specs.Cell.{Bounded, positive_terms, negative_terms}
use Rattle.cell.specs.declared.Cell.{Cell}

abbrev required_by : Cell → ℕ
required_by c = required_for c.diagonal c.pull c.source

pub slack_split : (c : Cell) (p : ℕ) → slack_of c.diagonal c.pull c.source p ≡ sub_ℕ (positive_terms c p) (negative_terms c)
unfolding positive_terms negative_terms
slack_split c p = sub_source (c.diagonal * p) c.pull c.source

module _ (c : Cell) (b : Bounded c) where
  -- the slack is not negative at a pressure exactly if it is at least what is required
  pub met_required : (p : ℕ) → negative_terms c ≤ positive_terms c p → required_by c ≤ p
  unfolding negative_terms positive_terms
  met_required p h = required_least c.diagonal (positive_part c.source) (negative_terms c) p b.some h

  pub required_met : (p : ℕ) → required_by c ≤ p → negative_terms c ≤ positive_terms c p
  unfolding negative_terms positive_terms
  required_met p h = required_enough c.diagonal (positive_part c.source) (negative_terms c) p b.some h

  -- a quiet cell is raised to nothing, and any other to what it requires
  pub raise_quiet : (p : ℕ) → negative_terms c ≤ positive_terms c p → 0 ≡ raise_to (required_by c) p
  raise_quiet p h = rw (le-leb _ _ (met_required p h))

  pub raise_up : (p : ℕ) → positive_terms c p < negative_terms c → required_by c ≡ raise_to (required_by c) p
  raise_up p h =
      elim (dec_le (required_by c) p) [
        | yes l ↦ absurd (omega (arith, required_met p l))
        | no l ↦ rw (lt-leb (required_by c) p (omega arith))
      ]

  pub product_small : (p : ℕ) → p < 2 ^ 32 → c.diagonal * p ≤ 2 ^ 60
  product_small p h =
      let m : c.diagonal * p ≤ 2 ^ 28 * 2 ^ 32 = mul-le-mul {m₁ = p} {m₂ = 2 ^ 32} b.diagonal (omega arith) in omega arith

  pub positive_terms_small : (p : ℕ) → p < 2 ^ 32 → positive_terms c p ≤ 2 ^ 61
  unfolding positive_terms
  positive_terms_small p h = omega (arith, product_small p h)

  pub negative_terms_small : negative_terms c ≤ 2 ^ 61
  unfolding negative_terms
  negative_terms_small = omega arith

-- a signed number that is small either way is read back from its bits
small_fits : (s : ℤ) → positive_part s ≤ 2 ^ 60 → negative_part s ≤ 2 ^ 60 → SFits w64 s
small_fits (pos n) l d = record { sfits = omega arith }
small_fits (negsuc n) l d = record { sfits = omega arith }

pub source_kept : (c : Cell) → Bounded c → to_z w64 (of_z w64 c.source) ≡ c.source
source_kept c b = to_z-of_z (small_fits c.source b.positive b.negative)
