-- What a step tells of the one before it, and of its pivot.
use mathlib.Core.Path.{◌≡◌, refl}
use mathlib.Core.Bool.{Bool, true, false, cond, true≢false}
use lib.Ieee.{Float, lt}
use Rattle.model.specs.Estimate.{float_of, idle, pivot, broken, pivot_if, eliminate, is_broken}
use Rattle.model.specs.Estimate as paper

-- a step that is not broken comes from one that is not
pub unbroken_before : (active : Bool) (m b k : Float) (e : paper.Elimination) → is_broken (eliminate active m b k e) ≡ false → is_broken e ≡ false
unfolding eliminate
unbroken_before active m b k idle h = refl
unbroken_before active m b k (pivot g h) z = refl
unbroken_before true m b k broken h = absurd (true≢false h)
unbroken_before false m b k broken h = absurd (true≢false h)

-- a pivot is above 0
abbrev pub sound : paper.Elimination → Bool
sound idle = true
sound (pivot g h) = lt (float_of 0) g
sound broken = true

sound_pivot : (g h : Float) → sound (pivot_if g h) ≡ true
sound_pivot g h = go (lt (float_of 0) g) refl
  where
    go : (t : Bool) → lt (float_of 0) g ≡ t → sound (cond t (pivot g h) broken) ≡ true
    go true e = e
    go false e = refl

pub sound_step : (active : Bool) (m b k : Float) (e : paper.Elimination) → sound (eliminate active m b k e) ≡ true
unfolding eliminate
sound_step true m b k idle = sound_pivot _ _
sound_step true m b k (pivot g h) = sound_pivot _ _
sound_step true m b k broken = refl
sound_step false m b k idle = refl
sound_step false m b k (pivot g h) = refl
sound_step false m b k broken = refl
