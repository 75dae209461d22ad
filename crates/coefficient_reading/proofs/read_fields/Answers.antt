-- `coefficient_reading::read_fields` meets its contract: a file whose fields have passed has all its numbers (`fields_whole`), what is decoded of them stands there
-- (`stands`), and `hand_over` tests it and writes it.
use mathlib.Core.Path.{◌≡◌, ap, ◌∙◌}
use Prim.Native.Nat.{ℕ, ◌+◌, ◌*◌, ◌≤◌}
use native.Mathlib.Omega.{arith}
use lib.Seq.{length-take-le}
use Rattle.model.specs.File.{cells_in, carried, carried_in}
use Rattle.coefficient_reading.proofs.Numbers.{Whole, fields_whole, stands}
use Rattle.coefficient_reading.proofs.read_fields.Goals as goal

pub decode-requires-clause-inside : goal.decode-requires-clause-inside
decode-requires-clause-inside c =
    let whole : Whole c.args.file.now = fields_whole c.args.file.now c.requires.fields in
    let cells_are : c.area-n.result ≡ cells_in c.args.file.now = c.area-n.ensures ∙ ap (λ h. h.rows * h.columns) c.head_in-head.ensures in
    let few : c.area-n.result ≤ 1024 = rw cells_are whole.few in
    let carried_is : c.carried.result ≡ carried_in c.args.file.now = c.carried.ensures ∙ ap (carried c.args.file.now) cells_are in
    let has : c.carried.result ≤ 1024 = rw carried_is whole.has in
    let w = whole in
    let f = few in
    (omega (arith, has), f, omega (arith, w.long, carried_is, cells_are))

pub hand_over-requires-clause-stands : goal.hand_over-requires-clause-stands
hand_over-requires-clause-stands c =
    let whole : Whole c.args.file.now = fields_whole c.args.file.now c.requires.fields in
    let cells_are : c.area-n.result ≡ cells_in c.args.file.now = c.area-n.ensures ∙ ap (λ h. h.rows * h.columns) c.head_in-head.ensures in
    let few : c.area-n.result ≤ 1024 = rw cells_are whole.few in
    let carried_is : c.carried.result ≡ carried_in c.args.file.now = c.carried.ensures ∙ ap (carried c.args.file.now) cells_are in
    let film = stands c.args.file.now c.requires.fields c.head_in-head.ensures cells_are (ap (λ (w : ℕ). 18 + 2 * w) carried_is) c.decode.ensures in
    (film, length-take-le _ _ few ∙ c.area-n.ensures)
