-- Laws of optional fields (document 02, W2), for every list of them and every choice of those that are there, each by induction over the list.
--
--   The bodies that stand for the fields that a file has are its parts (`parts_bodies`): so what was read is written back.
--   Where tags rise, the fields that are written are those that are found (`parts_written`): so what is written reads back.
--   What is found depends on no byte beyond the last field that may be there (`parts_same`).
use mathlib.Core.Path.{◌≡◌, refl, sym, ap, ap₂, ◌∙◌}
use mathlib.Core.Bool.{Bool, true, false, cond}
use mathlib.Core.List.{List, [], ◌∷◌, ◌++◌}
use Prim.Native.Nat.{ℕ, ◌+◌, ◌≤◌, ◌<◌}
use native.Mathlib.Nat.{le_refl, le_trans}
use native.Mathlib.Omega.{arith}
use borrow.Author.Tests.{eq-eqb, ne_eqb}
use lib.Dec.{eqb}
use lib.ListN.{length, get_or-eq_default}
use Rattle.model.specs.Lists.{tabulate}
use Rattle.model.specs.Bytes.{byte_at}
use Rattle.model.specs.Fields.{Field, body, behind, fields_end, Optional, absent, given, past, parts_in, present, givens}
use Rattle.model.proofs.Lists.{tabulate_is, tabulate_same}
use Rattle.model.proofs.Fields.{header, bodies_in, Fit, Stands, Laid, Agree, AllLocal, end_above}

-- ---- a list of fields and one behind it

pub bodies_append : (fs gs : List Field) (l : List ℕ) (at : ℕ) → bodies_in (fs ++ gs) l at ≡ bodies_in fs l at ++ bodies_in gs l (fields_end fs at)
bodies_append [] gs l at = refl
bodies_append (f ∷ fs) gs l at = ap (λ bs. tabulate f.size (λ j. byte_at l (body at + j)) ∷ bs) (bodies_append fs gs l (behind at f.size))

-- ---- what was read

-- the part that a field is, by whether its tag is there
abbrev pub part_if : Bool → Field → List ℕ → ℕ → Optional (List ℕ)
part_if there f l at = cond there (given (tabulate f.size (λ j. byte_at l (body at + j)))) absent

pub parts_bodies : (fs : List Field) (l : List ℕ) (at : ℕ) → bodies_in (present fs (parts_in fs l at)) l at ≡ givens (parts_in fs l at)
parts_bodies [] l at = refl
parts_bodies (f ∷ fs) l at = go (eqb (byte_at l at) f.tag) (parts_bodies fs l (behind at f.size)) (parts_bodies fs l at)
  where
    go : (b : Bool) → bodies_in (present fs (parts_in fs l (behind at f.size))) l (behind at f.size) ≡ givens (parts_in fs l (behind at f.size))
        → bodies_in (present fs (parts_in fs l at)) l at ≡ givens (parts_in fs l at)
        → bodies_in (present (f ∷ fs) (part_if b f l at ∷ parts_in fs l (past (part_if b f l at) f at))) l at
        ≡ givens (part_if b f l at ∷ parts_in fs l (past (part_if b f l at) f at))
    go true behind_it here = ap (λ bs. tabulate f.size (λ j. byte_at l (body at + j)) ∷ bs) behind_it
    go false behind_it here = here

-- ---- what is written

-- tags rise, the first from above a number
abbrev pub Rising : ℕ → List Field → Type 0
Rising low [] = Unit {0}
Rising low (f ∷ fs) = (low < f.tag) × Rising f.tag fs

-- a part, or none, for each field
abbrev pub Each : List Field → List (Optional (List ℕ)) → Type 0
Each [] [] = Unit {0}
Each [] (p ∷ ps) = ◌≡◌ {A = ℕ} 0 1
Each (f ∷ fs) [] = ◌≡◌ {A = ℕ} 0 1
Each (f ∷ fs) (p ∷ ps) = Each fs ps

-- those that are there stand in a file from an offset on, and it ends with them
pub record Written (fs : List Field) (ps : List (Optional (List ℕ))) (l : List ℕ) (at : ℕ) : Type 0 where
  pub fit : Fit (present fs ps) (givens ps)
  pub laid : Laid (present fs ps) (givens ps) l at
  pub ends : length l ≤ fields_end (present fs ps) at

-- past its end a file counts as 0
ended : (l : List ℕ) (at tag : ℕ) → length l ≤ at → 1 ≤ tag → eqb (byte_at l at) tag ≡ false
ended l at tag h some = ne_eqb (byte_at l at) tag (λ e. let z : byte_at l at ≡ 0 = get_or-eq_default l 0 {n = at} h in omega (arith, e, z))

-- so no tag up to that number stands where they begin
other_tag : (fs : List Field) (ps : List (Optional (List ℕ))) (l : List ℕ) (at low tag : ℕ) → Rising low fs → Each fs ps → Written fs ps l at
    → 1 ≤ tag → tag ≤ low → eqb (byte_at l at) tag ≡ false
other_tag [] [] l at low tag r e w some h = ended l at tag w.ends some
other_tag [] (p ∷ ps) l at low tag r e w some h = absurd (omega (arith, e))
other_tag (f ∷ fs) [] l at low tag r e w some h = absurd (omega (arith, e))
other_tag (f ∷ fs) (absent ∷ ps) l at low tag r e w some h =
    other_tag fs ps l at f.tag tag r.1 e (record { fit = w.fit; laid = w.laid; ends = w.ends }) some (omega (arith, r.0))
other_tag (f ∷ fs) (given b ∷ ps) l at low tag r e w some h =
    let here : byte_at l at ≡ f.tag = (header l at f.tag f.size w.laid.0.passes).tag_is in
    ne_eqb (byte_at l at) tag (λ same. omega (arith, here, same, r.0))

-- What is written is found.
pub parts_written : (fs : List Field) (ps : List (Optional (List ℕ))) (l : List ℕ) (at low : ℕ) → Rising low fs → Each fs ps → Written fs ps l at
    → parts_in fs l at ≡ ps
parts_written [] [] l at low r e w = refl
parts_written [] (p ∷ ps) l at low r e w = absurd (omega (arith, e))
parts_written (f ∷ fs) [] l at low r e w = absurd (omega (arith, e))
parts_written (f ∷ fs) (absent ∷ ps) l at low r e w =
    let rest : Written fs ps l at = record { fit = w.fit; laid = w.laid; ends = w.ends } in
    let none : eqb (byte_at l at) f.tag ≡ false = other_tag fs ps l at f.tag f.tag r.1 e rest (omega (arith, r.0)) (le_refl f.tag) in
    ap (λ b. part_if b f l at ∷ parts_in fs l (past (part_if b f l at) f at)) none
    ∙ ap (λ qs. absent ∷ qs) (parts_written fs ps l at f.tag r.1 e rest)
parts_written (f ∷ fs) (given b ∷ ps) l at low r e w =
    let S : Stands l at f.tag f.size b = w.laid.0 in
    let there : eqb (byte_at l at) f.tag ≡ true = eq-eqb _ _ (header l at f.tag f.size S.passes).tag_is in
    let bytes : tabulate f.size (λ j. byte_at l (body at + j)) ≡ b =
    sym (tabulate_is f.size (λ j. byte_at l (body at + j)) 0 b w.fit.0 (λ j h. sym (S.inside j (body at + j) h refl))) in
    ap (λ t. part_if t f l at ∷ parts_in fs l (past (part_if t f l at) f at)) there
    ∙ ap₂ (λ x qs. given x ∷ qs) bytes
    (parts_written fs ps l (behind at f.size) f.tag r.1 e (record { fit = w.fit.1; laid = w.laid.1; ends = w.ends }))

-- ---- how far a file is looked at

-- those that are there end no later than all of them would
end_later : (fs : List Field) (at k : ℕ) → at ≤ k → fields_end fs at ≤ fields_end fs k
end_later [] at k h = h
end_later (f ∷ fs) at k h = end_later fs (behind at f.size) (behind k f.size) (omega arith)

pub present_end : (fs : List Field) (ps : List (Optional (List ℕ))) (at : ℕ) → fields_end (present fs ps) at ≤ fields_end fs at
present_end [] ps at = le_refl at
present_end (f ∷ fs) [] at = end_above (f ∷ fs) at
present_end (f ∷ fs) (absent ∷ ps) at = le_trans (present_end fs ps at) (end_later fs at (behind at f.size) (omega arith))
present_end (f ∷ fs) (given b ∷ ps) at = present_end fs ps (behind at f.size)

-- their tests look at their bodies alone, if all do
pub present_local : (fs : List Field) (ps : List (Optional (List ℕ))) → AllLocal fs → AllLocal (present fs ps)
present_local [] ps a = tt
present_local (f ∷ fs) [] a = tt
present_local (f ∷ fs) (absent ∷ ps) a = present_local fs ps a.1
present_local (f ∷ fs) (given b ∷ ps) a = (a.0, present_local fs ps a.1)

pub append_local : (fs gs : List Field) → AllLocal fs → AllLocal gs → AllLocal (fs ++ gs)
append_local [] gs a b = b
append_local (f ∷ fs) gs a b = (a.0, append_local fs gs a.1 b)

module _ {n : ℕ} {l m : List ℕ} (A : Agree n l m) where
  -- two files that agree so far have the same parts
  pub parts_same : (fs : List Field) (at : ℕ) → fields_end fs at < n → parts_in fs l at ≡ parts_in fs m at
  parts_same [] at h = refl
  parts_same (f ∷ fs) at h =
      let low = end_above fs (behind at f.size) in
      let bytes : tabulate f.size (λ j. byte_at l (body at + j)) ≡ tabulate f.size (λ j. byte_at m (body at + j)) =
      tabulate_same 0 f.size (λ j. byte_at l (body at + j)) (λ j. byte_at m (body at + j)) (λ j b. A.same (body at + j) (omega arith)) in
      (λ k. go_part (A.same at (omega arith) k) (bytes k))
      ∙ go (eqb (byte_at m at) f.tag) (parts_same fs (behind at f.size) h)
      (parts_same fs at (omega (arith, end_later fs at (behind at f.size) (omega arith))))
    where
      go_part : ℕ → List ℕ → List (Optional (List ℕ))
      go_part tag bytes =
          cond (eqb tag f.tag) (given bytes) absent ∷ parts_in fs l (past (cond (eqb tag f.tag) (given bytes) absent) f at)

      go : (b : Bool) → parts_in fs l (behind at f.size) ≡ parts_in fs m (behind at f.size) → parts_in fs l at ≡ parts_in fs m at
          → (part_if b f m at ∷ parts_in fs l (past (part_if b f m at) f at)) ≡ (part_if b f m at ∷ parts_in fs m (past (part_if b f m at) f at))
      go true behind_it here = ap (λ qs. part_if true f m at ∷ qs) behind_it
      go false behind_it here = ap (λ qs. absent ∷ qs) here
