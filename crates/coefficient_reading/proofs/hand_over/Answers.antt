-- `coefficient_reading::hand_over` meets its contract: what `tested` finds is refused, and where it passes the lists are laid over the buffers (`film_loaded`), which
-- have room for them.
use mathlib.Core.Path.{refl, sym, ap, ◌∙◌}
use Prim.Native.Nat.{◌≤◌}
use native.Mathlib.Omega.{arith}
use Rattle.std.proofs.lemmas.Result.{err_from_is_err_and}
use Rattle.model.specs.Refusals.{check_of}
use Rattle.model.specs.Film.{Film, film_of, size_of}
use Rattle.model.specs.Accepted.{Sized}
use Rattle.coefficient_reading.proofs.Numbers.{few_cells, sized, film_loaded, film_refused, whole_film, loads_same}
use Rattle.coefficient_reading.proofs.hand_over.Goals as goal

pub returns-in_err-tested : goal.returns-in_err-tested
returns-in_err-tested c =
    let p = err_from_is_err_and c.from_residual.result c.from_residual.ensures.1 in
    rw (p.1, p.2) (film_refused (sym c.tested.ensures.finds ∙ ap check_of c.in_err-tested.was))

pub put-requires : goal.put-requires
put-requires c =
    let film : Film = let a = c.args in film_of a.head c.tested.new.weights a.diagonals.now a.rights.now a.ups.now a.sources.now in
    let whole : Sized film = sized c.args.file.now c.requires.stands.0 _ (c.tested.auto.weights ∙ c.requires.stands.1) in
    let few : size_of film ≤ 1024 = few_cells c.args.file.now c.requires.stands.0 refl in
    omega arith

pub put-requires-2 : goal.put-requires-2
put-requires-2 c =
    let film : Film = let a = c.args in film_of a.head c.tested.new.weights a.diagonals.now a.rights.now a.ups.now a.sources.now in
    let whole : Sized film = sized c.args.file.now c.requires.stands.0 _ (c.tested.auto.weights ∙ c.requires.stands.1) in
    let few : size_of film ≤ 1024 = few_cells c.args.file.now c.requires.stands.0 refl in
    omega arith

pub put-requires-3 : goal.put-requires-3
put-requires-3 c =
    let film : Film = let a = c.args in film_of a.head c.tested.new.weights a.diagonals.now a.rights.now a.ups.now a.sources.now in
    let whole : Sized film = sized c.args.file.now c.requires.stands.0 _ (c.tested.auto.weights ∙ c.requires.stands.1) in
    let few : size_of film ≤ 1024 = few_cells c.args.file.now c.requires.stands.0 refl in
    omega arith

pub put-requires-4 : goal.put-requires-4
put-requires-4 c =
    let film : Film = let a = c.args in film_of a.head c.tested.new.weights a.diagonals.now a.rights.now a.ups.now a.sources.now in
    let whole : Sized film = sized c.args.file.now c.requires.stands.0 _ (c.tested.auto.weights ∙ c.requires.stands.1) in
    let few : size_of film ≤ 1024 = few_cells c.args.file.now c.requires.stands.0 refl in
    omega arith

pub put-requires-5 : goal.put-requires-5
put-requires-5 c =
    let film : Film = let a = c.args in film_of a.head c.tested.new.weights a.diagonals.now a.rights.now a.ups.now a.sources.now in
    let whole : Sized film = sized c.args.file.now c.requires.stands.0 _ (c.tested.auto.weights ∙ c.requires.stands.1) in
    let few : size_of film ≤ 1024 = few_cells c.args.file.now c.requires.stands.0 refl in
    omega arith

pub returns : goal.returns
returns c =
    let film : Film = let a = c.args in film_of a.head c.tested.new.weights a.diagonals.now a.rights.now a.ups.now a.sources.now in
    let whole : Sized film = sized c.args.file.now c.requires.stands.0 _ (c.tested.auto.weights ∙ c.requires.stands.1) in
    loads_same (whole_film c.args.file.now c.requires.stands.0 c.tested.ensures c.in_ok-tested.was)
    (film_loaded film whole c.args.weights_out.now c.args.diagonals_out.now c.args.rights_out.now c.args.ups_out.now c.args.sources_out.now c.requires.buffers
    (sym c.tested.ensures.finds ∙ ap check_of c.in_ok-tested.was)
    c.put.ensures c.put-2.ensures c.put-3.ensures c.put-4.ensures c.put-5.ensures)
