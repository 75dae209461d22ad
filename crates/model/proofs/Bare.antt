-- Films as calls are lent them that read no weights, or no sources: what these work out is the same.
use mathlib.Core.Path.{◌≡◌, refl}
use mathlib.Core.List.{List, []}
use Prim.Native.Nat.{ℕ}
use lib.IntN.{ℤ}
use Rattle.model.specs.Film.{Film, beside, across, neighbours}
use Rattle.model.specs.Proposal.{raised_by, rise_count, within_ceiling, tight, propose}
use Rattle.model.specs.Margin.{margin}

-- the film with these weights and sources
abbrev exchanged : Film → List ℕ → List ℤ → Film
exchanged f weights sources =
    record {
      rows = f.rows;
      columns = f.columns;
      ceiling = f.ceiling;
      weights = weights;
      diagonals = f.diagonals;
      rights = f.rights;
      ups = f.ups;
      sources = sources;
    }

abbrev pub bare : Film → Film
bare f = exchanged f [] f.sources

abbrev pub sourceless : Film → Film
sourceless f = exchanged f f.weights []

-- a proposal's answer, and the field that it leaves
pub propose_bare : (f : Film) (start : ℕ) (proposal p : List ℕ) → propose (bare f) start proposal p ≡ propose f start proposal p
unfolding propose raised_by rise_count within_ceiling tight beside across neighbours
propose_bare f start proposal p = refl

pub margin_sourceless : (f : Film) → margin (sourceless f) ≡ margin f
unfolding margin beside across neighbours
margin_sourceless f = refl
