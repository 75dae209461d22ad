-- The film that coefficients formed into longer slices are.
use mathlib.Core.Path.{◌≡◌}
use mathlib.Core.List.{List, []}
use Prim.Native.Nat.{ℕ}
use lib.IntN.{ℤ}
use lib.ListN.{length, take}
use Rattle.std.specs.Prelude.{Option, Some}
use Rattle.model.specs.Gauge.{Gauge, factors_of}
use Rattle.model.specs.Film.{film_of}
use Rattle.model.specs.Coefficients.{formed}
use Rattle.model.specs.File.{cells}
use Rattle.model.specs.FileCalls.{gauge_of, head_of}
use Rattle.model.specs.declared.Head.{Head}
use Rattle.model.specs.declared.Factors.{Factors}
use Rattle.forming.specs.Cell.{FormedTo, Forming}

-- what was formed, from the factors of its steps, which are all that counts of them
pub steps_formed : (h : Head) (t : List ℕ) (wedge : ℤ) (s : Option Factors) {n : ℕ} {diagonals rights ups : List ℕ} {sources : List ℤ}
    → FormedTo n (gauge_of h [] t wedge (Some (factors_of s))) diagonals rights ups sources → FormedTo n (gauge_of h [] t wedge s) diagonals rights ups sources
steps_formed h t wedge s f =
    record { diagonals_are = f.diagonals_are; rights_are = f.rights_are; ups_are = f.ups_are; sources_are = f.sources_are }

-- coefficients at the start of four slices, with the film's weights, are the formed film
pub film_formed : (g : Gauge) {diagonals rights ups : List ℕ} {sources : List ℤ} → length g.weights ≡ cells g.rows g.columns
    → Forming g diagonals rights ups sources
    → (let n = length g.weights in film_of (head_of g) g.weights (take n diagonals) (take n rights) (take n ups) (take n sources)) ≡ formed g
film_formed g e b = rw (e, b.diagonals_are, b.rights_are, b.ups_are, b.sources_are)
