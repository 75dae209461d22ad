-- What a search for weights gives.
use Rattle.std.specs.Prelude.{◌≡◌, List, ℕ, ℤ, Result}
use Rattle.model.specs.Refusals.{pass, check_of}
use Rattle.model.specs.Film.{Film, film_of}
use Rattle.model.specs.Accepted.{Limited}
use Rattle.model.specs.Weighing.{found_weights, search_check}
use Rattle.model.specs.declared.Head.{Head}
use Rattle.model.specs.declared.Refusal.{Refusal}

-- coefficients within their limits, whatever the film's weights and sources are: the search reads neither
abbrev pub Searchable : Head → List ℕ → List ℕ → List ℕ → Type 0
Searchable h diagonals rights ups = (w : List ℕ) × ((s : List ℤ) × Limited (film_of h w diagonals rights ups s))

-- what the search finds and, where it passes, the weights that are then written
pub record Searches (f : Film) (r : Result (Unit {0}) Refusal) (exit : List ℕ) : Type 0 where
  pub finds : check_of r ≡ search_check f
  pub weights_are : check_of r ≡ pass → exit ≡ found_weights f
