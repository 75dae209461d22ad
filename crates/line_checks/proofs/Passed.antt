-- What the tests of a call for one line grant.
use mathlib.Core.Path.{◌≡◌}
use mathlib.Core.List.{List}
use Prim.Native.Nat.{ℕ, ◌+◌, ◌≤◌}
use borrow.Author.Tests.{eqb-true}
use lib.Dec.{eqb}
use lib.ListN.{length}
use Rattle.monotone.specs.Rule.{Bounded}
use Rattle.model.specs.Refusals.{pass}
use Rattle.model.specs.Film.{Film, size_of, rule}
use Rattle.model.specs.Checks.{outside, line_check}
use Rattle.model.specs.Accepted.{Accepted}
use Rattle.model.specs.Proposal.{line_start, row_check}
use Rattle.model.proofs.Checks.{within, fail_if_pass, field_passes}
use Rattle.proposal.proofs.Lines.{row_inside}

pub record LinePassed (f : Film) (p numbers : List ℕ) (line : ℕ) : Type 0 where
  pub film : Accepted f
  pub bounded : Bounded (rule f) p
  pub len : length numbers ≡ f.columns
  pub line_some : 1 ≤ line
  pub line_low : line ≤ f.rows
  pub inside : line_start f line + f.columns ≤ size_of f

pub line_ready : (f : Film) (p numbers : List ℕ) (line : ℕ) → row_check f p numbers line ≡ pass → LinePassed f p numbers line
line_ready f p numbers line e =
    let P = field_passes f p (eqb (length numbers) f.columns) pass (line_check f line) e in
    let l = within line 1 f.rows (fail_if_pass (outside line 1 f.rows) 13 0 P.place_is) in
    record {
      film = P.film;
      bounded = P.bounded;
      len = eqb-true _ _ P.fits_is;
      line_some = l.0;
      line_low = l.1;
      inside = row_inside line f.rows f.columns l.0 l.1;
    }
