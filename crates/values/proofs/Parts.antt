-- A part of a file: a list of bytes in it.
use mathlib.Core.Path.{◌≡◌, ap, ◌∙◌}
use mathlib.Core.List.{List}
use Prim.Native.Nat.{ℕ, ◌+◌, ◌-◌, ◌≤◌, ◌<◌}
use native.Mathlib.Omega.{arith}
use lib.ListN.{length, get_or, take, drop, length-drop}
use lib.Seq.{length-take-le, get_or-take, get_or-drop}
use Rattle.model.specs.Limits.{thickness_limit}
use Rattle.model.specs.Lists.{tabulate}
use Rattle.model.specs.Refusals.{fail_first}
use Rattle.model.specs.Checks.{outside}
use Rattle.model.specs.Bytes.{byte_at}
use Rattle.model.specs.File.{thicknesses_from}
use Rattle.model.proofs.Lists.{tabulate_is}
use Rattle.model.proofs.Checks.{fail_first_same}

-- t bytes from an offset on
module _ (l : List ℕ) (at t : ℕ) (h : at + t ≤ length l) where
  abbrev part : List ℕ
  part = take (at + t - at) (drop at l)

  pub part_length : length part ≡ t
  part_length =
      let size : at + t - at ≡ t = omega arith in
      let room : t ≤ length (drop at l) = omega (arith, length-drop at l) in
      rw size (length-take-le t (drop at l) room)

  part_at : (j : ℕ) → j < t → get_or part j 0 ≡ byte_at l (at + j)
  part_at j b = get_or-take (at + t - at) (drop at l) j 0 (omega arith) ∙ get_or-drop at l j 0

  pub part_is : part ≡ tabulate t (λ j. byte_at l (at + j))
  part_is = tabulate_is t (λ j. byte_at l (at + j)) 0 part part_length part_at

  -- they are tested alike as a slice and where they stand
  pub part_tested : fail_first (λ j. outside (get_or part j 0) 1 thickness_limit) (length part) 7 (λ j. at + j) ≡ thicknesses_from (λ j. byte_at l (at + j)) t at
  part_tested = rw part_length (fail_first_same _ _ t 7 (λ j. at + j) (λ j b. ap (λ x. outside x 1 thickness_limit) (part_at j b)))
