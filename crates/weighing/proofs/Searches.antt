-- The search: relaxations on the film that weights are searched on are the model's run, whatever weights and sources the film has; and what is found fits a weight.
use Rattle.std.specs.Prelude.{Option, Result as Outcome}
use mathlib.Core.Path.{◌≡◌, sym, ap, ◌∙◌, subst}
use mathlib.Core.List.{List, []}
use Prim.Native.Nat.{ℕ, ◌*◌, ◌≤◌, ◌<◌}
use native.Mathlib.Omega.{arith}
use lib.IntN.{ℤ, pos, negsuc, nat_abs}
use lib.ListN.{length, get_or, take, replicate, length-replicate, get_or-replicate}
use Rattle.monotone.specs.Sweep.{begin, sweep as sweep_of}
use Rattle.model.specs.Limits.{source_limit}
use Rattle.model.specs.Refusals.{Check, pass}
use Rattle.model.specs.Film.{Film, film_of, beside, across, neighbours, rule}
use Rattle.model.specs.Coefficients.{formed}
use Rattle.model.specs.Accepted.{Limited}
use Rattle.model.specs.FileCalls.{gauge_of}
use Rattle.model.specs.Result.{Result, Gives}
use Rattle.model.specs.Run.{RunAnswer, ended, ordering}
use Rattle.model.specs.Weighing.{search_budget, weight_search, found_weights, searched_check, search_check}
use Rattle.model.specs.declared.Head.{Head}
use Rattle.model.proofs.Sides.{cells_low}
use Rattle.model.proofs.Weighing.{search_is, found_least}
use Rattle.forming.specs.Cell.{Forming}
use Rattle.weighing.specs.Searches.{Searchable, Searches}
use Rattle.model.specs.declared.Refusal.{Refusal}
use Rattle.model.specs.declared.Factors.{Factors}

-- the shape, under the greatest weight
abbrev pub lidded : Head → Head
lidded h = record { rows = h.rows; columns = h.columns; ceiling = 65535 }

module _ (h : Head) (d r u : List ℕ) where
  abbrev pub bare : Film
  bare = film_of h [] d r u []

  -- with weights, its coefficients are within their limits, and a source of −1 is
  pub weighing_limited : (w : List ℕ) (sources : List ℤ) → length w ≡ h.rows * h.columns → sources ≡ replicate (h.rows * h.columns) (negsuc 0)
      → Searchable h d r u → Limited (film_of (lidded h) w d r u sources)
  weighing_limited w sources n e S =
      let s = S.1.1.sized in
      record {
        sized =
            record {
              rows_some = s.rows_some;
              rows_low = s.rows_low;
              columns_some = s.columns_some;
              columns_low = s.columns_low;
              ceiling_some = omega arith;
              ceiling_low = omega arith;
              weights_len = n;
              diagonals_len = s.diagonals_len;
              rights_len = s.rights_len;
              ups_len = s.ups_len;
              sources_len = ap length e ∙ length-replicate _ _;
            };
        cell = λ i b. let c = S.1.1.cell i b in
            record {
              diagonal_some = c.diagonal_some;
              diagonal_low = c.diagonal_low;
              right_low = c.right_low;
              up_low = c.up_low;
              right_edge = c.right_edge;
              up_edge = c.up_edge;
              source_low = small i b;
            };
      }
    where
      small : (i : ℕ) → i < h.rows * h.columns → nat_abs (get_or sources i (pos 0)) ≤ source_limit
      small i b = rw (e, get_or-replicate (h.rows * h.columns) i (negsuc 0) (pos 0) b) (omega arith)

  -- the relaxations from zeros, and their end as a test: it is the search, which reads no weights
  module _ (w : List ℕ) {sources : List ℤ} {field exit : List ℕ} {a : RunAnswer} {t : Check}
      (zeros : (sources ≡ replicate (h.rows * h.columns) (negsuc 0)) × (field ≡ replicate (h.rows * h.columns) 0))
      (G : Gives (ended (sweep_of (rule (film_of (lidded h) w d r u sources)) (ordering (film_of (lidded h) w d r u sources) 0) search_budget (begin field)) 0) a exit)
      (e : t ≡ searched_check a) where
    is_search : Gives (weight_search bare) a exit
    unfolding neighbours beside across
    is_search = subst (λ (x : Result RunAnswer). Gives x a exit) (sym (search_is bare)) (rw (zeros.0, zeros.1) at G)

    pub finds : t ≡ search_check bare
    finds = e ∙ ap searched_check is_search.answer_is

    pub found_is : exit ≡ found_weights bare
    found_is = is_search.lent_is

    -- one number for each cell, which fits a weight
    pub fits : Searchable h d r u → t ≡ pass → (length exit ≡ h.rows * h.columns) × ((i : ℕ) → get_or exit i 0 ≤ 65535)
    unfolding weight_search
    fits S p =
        let M = found_least (film_of h [] d r u S.1.0) S.0 S.1.1 (sym finds ∙ p) in
        rw is_search.lent_is (M.holds.len, M.low)

-- a film has a table's room
pub few_cells : {h : Head} {d r u : List ℕ} {n : ℕ} → Searchable h d r u → n ≡ h.rows * h.columns → n ≤ 1024
few_cells {h} S e = let s = S.1.1.sized in omega (arith, e, cells_low h.rows h.columns s.rows_low s.columns_low)

-- ---- a gauged film, whose coefficients are formed at the starts of tables

module _ (h : Head) (t : List ℕ) (steps : Option Factors) {n : ℕ} {d r u : List ℕ} {sources : List ℤ} (e : n ≡ h.rows * h.columns) (F : Forming (gauge_of h [] t (pos 0) steps) d r u sources) where
  pub formed_searchable : (w : List ℕ) × Limited (formed (gauge_of h w t (pos 0) steps)) → Searchable h (take n d) (take n r) (take n u)
  formed_searchable L = (L.0, ((formed (gauge_of h L.0 t (pos 0) steps)).sources, rw (e, F.diagonals_are, F.rights_are, F.ups_are) L.1))

  -- the search looks at no source of the film
  pub searches_formed : {x : Outcome (Unit {0}) Refusal} {exit : List ℕ} → Searches (film_of h [] (take n d) (take n r) (take n u) []) x exit
      → Searches (formed (gauge_of h [] t (pos 0) steps)) x exit
  unfolding weight_search
  searches_formed S = let T = rw (e, F.diagonals_are, F.rights_are, F.ups_are) at S in record { finds = T.finds; weights_are = T.weights_are }
