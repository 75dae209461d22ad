-- A relaxation by cases, and that one from 0 to where a cell is raised to, or to 0, is the same.
use mathlib.Core.Path.{◌≡◌, refl, sym, ◌∙◌}
use mathlib.Core.List.{List}
use Prim.Native.Nat.{ℕ, ◌≤◌, ◌<◌}
use native.Mathlib.Decide.{dec_le}
use native.Mathlib.Omega.{arith}
use borrow.Author.Tests.{le-leb, lt-leb}
use Rattle.monotone.specs.Sweep.{Relaxation, quiet, raise, exceed, relax}
use Rattle.monotone.proofs.Sweep.{Seen, was_raise, see}
use Rattle.pointwise.specs.Relaxation.{raise_to, kind_of, field_after, RelaxedAt}
use Rattle.pointwise.specs.declared.Found.{Found}

module _ (ceiling required pressure : ℕ) where
  pub is_quiet : required ≤ pressure → relax ceiling required pressure ≡ quiet
  is_quiet h = rw (le-leb _ _ h)

  pub is_raise : pressure < required → required ≤ ceiling → relax ceiling required pressure ≡ raise
  is_raise h l = rw (lt-leb _ _ h, le-leb _ _ l)

  pub is_exceed : pressure < required → ceiling < required → relax ceiling required pressure ≡ exceed
  is_exceed h l = rw (lt-leb _ _ h, lt-leb _ _ l)

module _ (entry : List ℕ) (i ceiling required pressure : ℕ) where
  abbrev to : ℕ
  to = raise_to required pressure

  -- comparing that with 0 finds what comparing the required pressure with the cell's own finds, and leads to the same field
  same : (relax ceiling to 0 ≡ relax ceiling required pressure)
      × (field_after (relax ceiling to 0) entry i to ≡ field_after (relax ceiling required pressure) entry i required)
  same =
      elim (dec_le required pressure) [
        | yes h ↦ rw (le-leb _ _ h) (refl, refl)
        | no h ↦
            let l : pressure < required = omega arith in
            let z : 0 < required = omega arith in
            rw (lt-leb _ _ l, lt-leb _ _ z) (refl, refl)
      ]

  pub relax_target : relax ceiling to 0 ≡ relax ceiling required pressure
  relax_target = same.0

  pub relaxed_target : {v : Found} {exit : List ℕ} → RelaxedAt entry i to (relax ceiling to 0) v exit
      → RelaxedAt entry i required (relax ceiling required pressure) v exit
  relaxed_target S = record { kind = S.kind ∙ same.0; field = S.field ∙ same.1 }

-- what a raise says
pub raise_above : (ceiling required pressure : ℕ) → relax ceiling required pressure ≡ raise → (pressure < required) × (required ≤ ceiling)
raise_above ceiling required pressure e = go (rw e at (see ceiling required pressure))
  where
    go : Seen ceiling required pressure raise → (pressure < required) × (required ≤ ceiling)
    go (was_raise h l) = (h, l)

-- a relaxation by what it found
pub relaxed_at : {entry exit : List ℕ} {i target : ℕ} {found : Relaxation} {v : Found} (k : Relaxation) → found ≡ k → kind_of v ≡ k
    → exit ≡ field_after k entry i target → RelaxedAt entry i target found v exit
relaxed_at k e f g = record { kind = f ∙ sym e; field = rw e g }
