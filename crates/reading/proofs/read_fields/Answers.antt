-- `reading::read_fields` meets its contract: a file whose fields have passed has all its numbers (`fields_whole`), and what is decoded of them is what the model
-- reads.
use mathlib.Core.Path.{◌≡◌, sym, ap, ◌∙◌}
use Prim.Native.Nat.{◌+◌, ◌-◌, ◌*◌, ◌≤◌}
use native.Mathlib.Omega.{arith}
use lib.ListN.{length, take, drop}
use lib.Seq.{length-take-le}
use Rattle.std.proofs.Common.{rules, to_z, of_z, w32}
use Rattle.model.specs.Limits.{side_limit}
use Rattle.model.specs.Lists.{tabulate}
use Rattle.model.specs.Bytes.{byte_at, long_at, signed_of}
use Rattle.model.specs.Fields.{part_at}
use Rattle.model.specs.File.{steps_field, thicknesses_offset, wedge_offset, end_offset, ring_in, carried, carried_in, steps_of}
use Rattle.model.proofs.Sides.{cells_low}
use Rattle.values.proofs.Parts.{part_is}
use Rattle.reading.specs.Reading.{Decoded}
use Rattle.reading.proofs.Numbers.{Whole, fields_whole}
use Rattle.reading.proofs.read_fields.Goals as goal

pub slice_bounds-hand_over-end : goal.slice_bounds-hand_over-end
slice_bounds-hand_over-end c =
    let whole : Whole c.args.file.now = fields_whole c.args.file.now c.requires.fields in
    let ring_is : c.ring-t.result ≡ ring_in c.args.file.now = c.ring-t.ensures ∙ ap (λ h. (h.rows + 2) * (h.columns + 2)) c.head_in-head.ensures in
    let carried_is : c.carried.result ≡ carried_in c.args.file.now = c.carried.ensures ∙ ap (carried c.args.file.now) (c.area-n.ensures ∙ ap (λ h. h.rows * h.columns) c.head_in-head.ensures) in
    let within : 15 + 2 * c.carried.result + 3 + c.ring-t.result ≤ length c.args.file.now = omega (arith, whole.long, carried_is, ring_is) in
    within

pub slice_bounds-words-end : goal.slice_bounds-words-end
slice_bounds-words-end c =
    let whole : Whole c.args.file.now = fields_whole c.args.file.now c.requires.fields in
    let low : (c.head_in-head.result.rows ≤ side_limit) × (c.head_in-head.result.columns ≤ side_limit) = let w = whole in rw c.head_in-head.ensures (w.shape.rows_low, w.shape.columns_low) in
    let few : c.area-n.result ≤ 1024 = let l = low in rw c.area-n.ensures (cells_low _ _ l.0 l.1) in
    few

pub slice_bounds-hand_over-end-2 : goal.slice_bounds-hand_over-end-2
slice_bounds-hand_over-end-2 c =
    let whole : Whole c.args.file.now = fields_whole c.args.file.now c.requires.fields in
    let low : (c.head_in-head.result.rows ≤ side_limit) × (c.head_in-head.result.columns ≤ side_limit) = let w = whole in rw c.head_in-head.ensures (w.shape.rows_low, w.shape.columns_low) in
    let few : c.area-n.result ≤ 1024 = let l = low in rw c.area-n.ensures (cells_low _ _ l.0 l.1) in
    sym (length-take-le _ _ few)

pub hand_over-requires-clause-decoded : goal.hand_over-requires-clause-decoded
hand_over-requires-clause-decoded c =
    let whole : Whole c.args.file.now = fields_whole c.args.file.now c.requires.fields in
    let low : (c.head_in-head.result.rows ≤ side_limit) × (c.head_in-head.result.columns ≤ side_limit) = let w = whole in rw c.head_in-head.ensures (w.shape.rows_low, w.shape.columns_low) in
    let few : c.area-n.result ≤ 1024 = let l = low in rw c.area-n.ensures (cells_low _ _ l.0 l.1) in
    let ring_is : c.ring-t.result ≡ ring_in c.args.file.now = c.ring-t.ensures ∙ ap (λ h. (h.rows + 2) * (h.columns + 2)) c.head_in-head.ensures in
    let carried_is : c.carried.result ≡ carried_in c.args.file.now = c.carried.ensures ∙ ap (carried c.args.file.now) (c.area-n.ensures ∙ ap (λ h. h.rows * h.columns) c.head_in-head.ensures) in
    let within : 15 + 2 * c.carried.result + 3 + c.ring-t.result ≤ length c.args.file.now = omega (arith, whole.long, carried_is, ring_is) in
    let same : to_z w32 (of_z w32 c.signed.result) ≡ c.signed.result = search rules in
    let decoded : let l = c.args.file.now in let from = 15 + 2 * c.carried.result + 3 in Decoded l (record { head = c.head_in-head.result; wedge = to_z w32 (of_z w32 c.signed.result); steps = c.steps_in.result }) (take (from + c.ring-t.result - from) (drop from l)) =
    let l = c.args.file.now in
    record {
      fields = c.requires.fields;
      head_is = c.head_in-head.ensures;
      wedge_is = same ∙ c.signed.ensures ∙ ap signed_of c.long_at.ensures ∙ (λ i. signed_of (long_at l (wedge_offset (carried_is i) (ring_is i))));
      steps_are = c.steps_in.ensures ∙ (λ i. steps_of (part_at steps_field l (end_offset (carried_is i) (ring_is i))));
      thicknesses_are = part_is l (15 + 2 * c.carried.result + 3) c.ring-t.result within ∙ (λ i. tabulate (ring_is i) (λ j. byte_at l (thicknesses_offset (carried_is i) + j)));
    } in
    (decoded, length-take-le _ _ few ∙ c.area-n.ensures)
