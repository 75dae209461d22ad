-- Rules that come from a linear complementarity problem: diagonal, links and source of each cell.
use Rattle.std.specs.Prelude.{List, ℕ, ◌+◌, ◌-◌, ◌*◌, ◌/◌, ◌≤◌, ◌<◌, get_or}
use Rattle.monotone.specs.Links.{pull}
use Rattle.monotone.specs.Rule.{Rule}

-- a source is its positive part less its negative part, so that all numbers are natural
pub record System : Type 0 where
  pub size : ℕ
  pub ceiling : ℕ
  pub links : ℕ → List (ℕ × ℕ)
  pub diagonal : ℕ → ℕ
  pub positive_part : ℕ → ℕ
  pub negative_part : ℕ → ℕ

-- The terms of cell i's slack in a field, which is the positive ones less the negative ones: its neighbours' pull and the negative part of
-- its source; diagonal × pressure and the positive part.
abbrev pub negative_terms : System → List ℕ → ℕ → ℕ
negative_terms S p i = pull (S.links i) (λ j. get_or p j 0) + S.negative_part i

abbrev pub positive_terms : System → List ℕ → ℕ → ℕ
positive_terms S p i = S.diagonal i * get_or p i 0 + S.positive_part i

-- the least pressure v with negative ≤ diagonal × v + positive
abbrev pub required_of : ℕ → ℕ → ℕ → ℕ
required_of diagonal positive negative = (negative - positive + (diagonal - 1)) / diagonal

abbrev pub rule_of : System → Rule
rule_of S =
    record {
      size = S.size;
      ceiling = S.ceiling;
      required = λ p i. required_of (S.diagonal i) (S.positive_part i) (negative_terms S p i);
    }

-- what relaxations alone ask of a system
pub record Positive (S : System) : Type 0 where
  pub some : 0 < S.size
  pub diagonal : (i : ℕ) → i < S.size → 0 < S.diagonal i

-- weights whose weighted row sums are all at least 1 show that the matrix is Minkowski
pub record Dominant (S : System) (w : ℕ → ℕ) : Type 0 where
  pub some : 0 < S.size
  pub row : (i : ℕ) → i < S.size → pull (S.links i) w < S.diagonal i * w i
