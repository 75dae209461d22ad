-- `grid::pull_back` meets its contract: both cases are those of `back_of`, and a link up to 2 ^ 26 times a number of 32 bits stays within 2 ^ 58.
use mathlib.Core.Path.{sym, ◌∙◌}
use native.Mathlib.Omega.{arith}
use lib.ListN.{get_or}
use Rattle.grid.proofs.Pull.{back_none, back_some, product_small}
use Rattle.grid.proofs.pull_back.Goals as goal

pub returns-then-at-step : goal.returns-then-at-step
returns-then-at-step c =
    let a = c.args in
    record { is = sym (back_none a.links.now a.numbers.now _ _ c.if-at-step.true); small = omega arith }

pub returns : goal.returns
returns c =
    let links = c.args.links.now in
    let numbers = c.args.numbers.now in
    record {
      is = c.product.ensures ∙ sym (back_some links numbers _ _ c.if-at-step.false);
      small =
          rw c.product.ensures
          (product_small (get_or links _ 0) (get_or numbers _ 0) (c.requires.0.small _) (c.shared_slice_known-2-1.given _).fits);
    }
