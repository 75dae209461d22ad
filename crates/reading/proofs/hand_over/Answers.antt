-- `reading::hand_over` meets its contract: what the weights gave is refused, and where they pass both lists are laid over the buffers, which have room for them.
use native.Mathlib.Omega.{arith}
use Rattle.std.proofs.lemmas.Result.{err_from_is_err_and}
use Rattle.reading.proofs.Numbers.{few_cells, few_thicknesses, film_loaded, film_refused}
use Rattle.reading.proofs.hand_over.Goals as goal

pub returns-in_err-weighed : goal.returns-in_err-weighed
returns-in_err-weighed c =
    let p = err_from_is_err_and c.from_residual.result c.from_residual.ensures.1 in
    rw (p.1, p.2) (film_refused c.args.file.now c.args.weights.now c.args.thicknesses.now c.weighed.ensures c.in_err-weighed.was)

pub put-requires : goal.put-requires
put-requires c = omega (arith, c.requires.buffers.0, c.weighed.auto.weights, few_cells c.args.file.now c.requires.decoded.0 c.requires.decoded.1)

pub put_bytes-requires : goal.put_bytes-requires
put_bytes-requires c = record { room = omega (arith, c.requires.buffers.1, few_thicknesses c.args.file.now c.requires.decoded.0) }

pub returns : goal.returns
returns c =
    film_loaded c.args.file.now c.args.weights.now c.args.thicknesses.now c.weighed.ensures c.requires.decoded.0 c.in_ok-weighed.was
    (omega (arith, c.requires.buffers.0, c.weighed.auto.weights, few_cells c.args.file.now c.requires.decoded.0 c.requires.decoded.1))
    (omega (arith, c.requires.buffers.1, few_thicknesses c.args.file.now c.requires.decoded.0))
    c.put.ensures
    c.put_bytes.ensures.bytes_are
