-- Document 02, W5: weights found by the program, "by visits in order 0 from zero with sources −1 and ceiling 65,535".
use Rattle.std.specs.Prelude.{◌≡◌, Bool, true, false, List, [], ℕ, ◌+◌, ◌≤◌, ◌<◌, negsuc, ◌-ℤ◌, length, get_or, replicate}
use Rattle.model.specs.Limits.{weight_limit}
use Rattle.model.specs.Refusals.{Check, pass, fail}
use Rattle.model.specs.Integers.{at_most_zero}
use Rattle.model.specs.Film.{Film, size_of, weighted, dominance}
use Rattle.model.specs.Checks.{not_dominant, dominance_check}
use Rattle.model.specs.Result.{Result}
use Rattle.model.specs.Run.{RunAnswer, done, stopped, over, run}

-- the film that a film's weights are searched on: its matrix, with source −1 in each cell, under the ceiling of weights. A run without proposals reads no weights.
abbrev pub weighing : Film → Film
weighing f =
    record {
      rows = f.rows;
      columns = f.columns;
      ceiling = weight_limit;
      weights = [];
      diagonals = f.diagonals;
      rights = f.rights;
      ups = f.ups;
      sources = replicate (size_of f) (negsuc 0);
    }

abbrev pub search_budget : ℕ
search_budget = 4000000

-- the search: a run on it from zero, order 0, proposals off
unfoldable pub weight_search : Film → Result RunAnswer
weight_search f = run (weighing f) search_budget 0 false (replicate (size_of f) 0)

-- the field of Done
abbrev pub found_weights : Film → List ℕ
found_weights f = (weight_search f).lent

-- 16, at the cell of Over; 17, at 0
abbrev pub searched_check : RunAnswer → Check
searched_check (done c) = pass
searched_check (over i c) = fail 16 i
searched_check (stopped c) = fail 17 0

abbrev pub search_check : Film → Check
search_check f = searched_check (weight_search f).answer

-- A film as its file has it, by whether the file leaves the weights to the program: the weights that it then has, ..
abbrev pub weights_for : Bool → Film → List ℕ
weights_for true f = found_weights f
weights_for false f = f.weights

-- .. and the test of them: 9, or 16 and 17 in its place
abbrev pub held_check : Bool → Film → Check
held_check true f = search_check f
held_check false f = dominance_check f

-- What is claimed of found weights. Numbers for each cell whose weighted row sums are all at least 1: with these for weights 9 is not met.
pub record Weights (f : Film) (w : List ℕ) : Type 0 where
  pub len : length w ≡ size_of f
  pub held : (i : ℕ) → i < size_of f → not_dominant (weighted f w) i ≡ false

-- the same of whole numbers that may be below 0, as differences a − b: their weighted row sums are the differences of the two
pub record SignedWeights (f : Film) (a b : List ℕ) : Type 0 where
  pub a_len : length a ≡ size_of f
  pub b_len : length b ≡ size_of f
  pub held : (i : ℕ) → i < size_of f → at_most_zero (dominance (weighted f a) i -ℤ dominance (weighted f b) i) ≡ false

-- from 1 to 65,535, and in each cell the least of all such numbers, also of those beyond 65,535 and below 0
pub record LeastWeights (f : Film) (w : List ℕ) : Type 0 where
  pub holds : Weights f w
  pub some : (i : ℕ) → i < size_of f → 1 ≤ get_or w i 0
  pub low : (i : ℕ) → get_or w i 0 ≤ weight_limit
  pub under : (z : List ℕ) → Weights f z → (i : ℕ) → i < size_of f → get_or w i 0 ≤ get_or z i 0
  pub under_signed : (a b : List ℕ) → SignedWeights f a b → (i : ℕ) → i < size_of f → get_or w i 0 + get_or b i 0 ≤ get_or a i 0
