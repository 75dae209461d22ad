-- `text::put_decimal` meets its contract: one digit stands alone, and more are the digits before the last and the last.
use Prim.Native.Nat.{ℕ, ◌/◌, ◌<◌, ◌≤◌}
use native.Mathlib.Omega.{arith}
use borrow.Author.Rules.{rules}
use Rattle.model.proofs.Digits.{decimal_one, decimal_more}
use Rattle.text.proofs.Writes.{fits_first, fits_rest, writes_then}
use Rattle.text.proofs.+put_decimal.Goals as goal

falls_by_ten : (n : ℕ) → 10 ≤ n → n / 10 < n
falls_by_ten n h = omega arith

pub put_byte-requires : goal.put_byte-requires
put_byte-requires t c =
    let h : c.args.n < 10 = search rules in
    rw (decimal_one c.args.n h) at c.requires

pub returns-then-n-lt10 : goal.returns-then-n-lt10
returns-then-n-lt10 t c =
    let h : c.args.n < 10 = search rules in
    rw (decimal_one c.args.n h) c.put_byte.ensures

pub put_decimal-next-requires : goal.put_decimal-next-requires
put_decimal-next-requires t c =
    let h : 10 ≤ c.args.n = search rules in
    (rw (← c.decreases) (falls_by_ten c.args.n h), fits_first _ _ (rw (decimal_more c.args.n h c.ranges.n.fits) at c.requires))

pub put_byte-requires-2 : goal.put_byte-requires-2
put_byte-requires-2 t c =
    let h : 10 ≤ c.args.n = search rules in
    fits_rest _ _ (rw (decimal_more c.args.n h c.ranges.n.fits) at c.requires) c.put_decimal-next.ensures

pub returns : goal.returns
returns t c =
    let h : 10 ≤ c.args.n = search rules in
    rw (decimal_more c.args.n h c.ranges.n.fits) (writes_then c.put_decimal-next.ensures c.put_byte-2.ensures)
