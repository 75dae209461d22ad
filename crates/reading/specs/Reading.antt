-- What the reader has decoded, what a film's weights give, and what the reader gives by what its tests find.
use Rattle.std.specs.Prelude.{◌≡◌, List, ℕ, Result}
use Rattle.model.specs.Refusals.{Check, pass, check_of}
use Rattle.model.specs.Gauge.{Gauge}
use Rattle.model.specs.Coefficients.{formed}
use Rattle.model.specs.Weighing.{held_check}
use Rattle.model.specs.Result.{Answer, answer_by, kept}
use Rattle.model.specs.File.{weightless, gauged_in, numbers_in, gauge_in, fields_check}
use Rattle.model.specs.FileCalls.{head_of, LoadAnswer, load_answer, laid_over}
use Rattle.model.specs.declared.Numbers.{Numbers}
use Rattle.model.specs.declared.Refusal.{Refusal}

-- a file whose fields have passed: the numbers that stand in it, and the thicknesses as they do
pub record Decoded (bytes : List ℕ) (n : Numbers) (thicknesses : List ℕ) : Type 0 where
  pub fields : fields_check (gauged_in bytes) bytes ≡ pass
  pub head_is : n.head ≡ head_of (numbers_in bytes)
  pub wedge_is : n.wedge ≡ (numbers_in bytes).wedge
  pub steps_are : n.steps ≡ (numbers_in bytes).steps
  pub thicknesses_are : thicknesses ≡ (numbers_in bytes).thicknesses

-- what the test of its weights, or the search for them, finds and, where that passes, the weights
pub record Weighs (bytes : List ℕ) (r : Result (Unit {0}) Refusal) (exit : List ℕ) : Type 0 where
  pub finds : check_of r ≡ held_check (weightless bytes) (formed (numbers_in bytes))
  pub weights_are : check_of r ≡ pass → exit ≡ (gauge_in bytes).weights

-- the answer and the lent buffers at exit, where the tests found c and the file's numbers are g
pub record LoadsBy (c : Check) (g : Gauge) (weights thicknesses : List ℕ) (answer : Answer LoadAnswer) (weights' thicknesses' : List ℕ) : Type 0 where
  pub answer_is : answer ≡ answer_by c (load_answer g)
  pub weights_are : weights' ≡ kept c (laid_over g.weights weights) weights
  pub thicknesses_are : thicknesses' ≡ kept c (laid_over g.thicknesses thicknesses) thicknesses
