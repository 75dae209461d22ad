-- `grid::pull_ahead` meets its contract: past the last cell the product is 0 (`ahead_none`), and a link up to 2 ^ 26 times a number of 32 bits stays within 2 ^ 58.
use mathlib.Core.Path.{sym}
use native.Mathlib.Omega.{arith}
use lib.ListN.{get_or}
use Rattle.grid.specs.Pull.{ahead_of}
use Rattle.grid.proofs.Pull.{ahead_none, product_small}
use Rattle.grid.proofs.pull_ahead.Goals as goal

pub returns-then-numbers-other : goal.returns-then-numbers-other
returns-then-numbers-other c =
    let a = c.args in
    record { is = sym (ahead_none a.links.now a.numbers.now _ _ c.if-numbers-other.true); small = omega arith }

pub returns : goal.returns
unfolding ahead_of
returns c =
    let links = c.args.links.now in
    let numbers = c.args.numbers.now in
    record {
      is = c.product.ensures;
      small =
          rw c.product.ensures
          (product_small (get_or links _ 0) (get_or numbers _ 0) (c.requires.links.0.small _) (c.shared_slice_known-2-1.given _).fits);
    }
