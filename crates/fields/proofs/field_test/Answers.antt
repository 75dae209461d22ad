-- `fields::field_test` meets its contract: each arm tests the field of the byte that stands there, and where that is not the tag that should,
-- it is refused before its length or its values count (`tries_found`).
use mathlib.Core.Path.{refl}
use Prim.Native.Nat.{◌*◌}
use native.Mathlib.Omega.{arith}
use borrow.Author.Rules.{rules}
use Rattle.model.specs.File.{shape_field, ceiling_field, weights_field, thicknesses_field, wedge_field, steps_field}
use Rattle.model.specs.CoefficientFile.{sources_field}
use Rattle.fields.specs.Tags.{plain_field, unknown, field_for, Tries}
use Rattle.fields.proofs.Tags.{longs_tried, unknown_tried, tries_found}
use Rattle.fields.proofs.field_test.Goals as goal
use Rattle.fields.proofs.field_test.Goals.{in-0-1, in_default+else-this-lt9}

pub returns-in-1 : goal.returns-in-1
returns-in-1 c =
    let a = c.args in
    tries_found a.file.now a.at a.tag a.n a.t (rw (← c.byte_at.ensures, c.in-1.is) (c.tested.ensures shape_field refl (λ h v e. search rules)))

pub returns-in-2 : goal.returns-in-2
returns-in-2 c =
    let a = c.args in
    tries_found a.file.now a.at a.tag a.n a.t (rw (← c.byte_at.ensures, c.in-2.is) (c.tested-in-2.ensures ceiling_field refl (λ h v e. search rules)))

pub returns-in-3 : goal.returns-in-3
returns-in-3 c =
    let a = c.args in
    tries_found a.file.now a.at a.tag a.n a.t
    (rw (← c.byte_at.ensures, c.in-3.is, ← c.carried-has.ensures) (c.tested-in-3.ensures (weights_field c.carried-has.result) refl (λ h v e. search rules)))

pub returns-in-4 : goal.returns-in-4
returns-in-4 c =
    let a = c.args in
    tries_found a.file.now a.at a.tag a.n a.t (rw (← c.byte_at.ensures, c.in-4.is) (c.tested-in-4.ensures (thicknesses_field a.t) refl (λ h v e. search rules)))

pub returns-in-5 : goal.returns-in-5
returns-in-5 c =
    let a = c.args in
    tries_found a.file.now a.at a.tag a.n a.t (rw (← c.byte_at.ensures, c.in-5.is) (c.tested-in-5.ensures wedge_field refl (λ h v e. search rules)))

pub returns-in-9 : goal.returns-in-9
returns-in-9 c =
    let a = c.args in
    tries_found a.file.now a.at a.tag a.n a.t (rw (← c.byte_at.ensures, c.in-9.is) (c.tested-in-9.ensures (sources_field a.n) refl (λ h v e. search rules)))

pub returns-in-10 : goal.returns-in-10
returns-in-10 c =
    let a = c.args in
    tries_found a.file.now a.at a.tag a.n a.t (rw (← c.byte_at.ensures, c.in-10.is) (c.tested-in-10.ensures steps_field refl (λ h v e. search rules)))

-- tags 6 to 8; 0, and tags above 10
pub returns-in-6-to-8 : goal.returns-in-6-to-8
returns-in-6-to-8 c =
    let a = c.args in
    tries_found a.file.now a.at a.tag a.n a.t
    (rw c.byte_at.ensures at (longs_tried a.n a.t c.byte_at.result (omega arith) (omega arith) (c.tested-in-6-to-8.ensures (plain_field (4 * a.n)) refl (λ h v e. search rules))))

pub returns-in-0 : goal.returns-in-0
returns-in-0 c =
    let a = c.args in
    let T : Tries unknown a.tag a.file.now a.at c.tested-in-0.result = c.tested-in-0.ensures unknown refl (λ h v e. search rules) in
    let tries : Tries (field_for a.file.now c.byte_at.result a.n a.t) a.tag a.file.now a.at c.tested-in-0.result =
    elim c.in-0-1.branch [
      | in-0-1 w ↦ rw w.in-0-1.keys8 T
      | in_default+else-this-lt9 w ↦ unknown_tried a.n a.t c.byte_at.result (omega arith) T
    ] in
    tries_found a.file.now a.at a.tag a.n a.t (rw c.byte_at.ensures at tries)
