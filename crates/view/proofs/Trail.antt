-- A walk over the fields of a film file, of either kind, tag by tag: from where it stands on, the rest of the list gives what the whole list gives
-- from the start. Up to the last tag that all files of the kind have, the tags are fixed; behind it the byte that stands there says whether an
-- optional field follows, and which (`follow_optional`, for every list of optional fields).
use mathlib.Core.Path.{◌≡◌, refl, sym, ap, ap₂, subst, ◌∙◌}
use mathlib.Core.Bool.{Bool, true, false, cond, ◌&&◌}
use mathlib.Core.List.{List, [], ◌∷◌}
use Rattle.std.specs.Prelude.{Option, Some, None, Result, Ok}
use Prim.Native.Nat.{ℕ, ◌+◌, ◌-◌, ◌*◌, ◌≤◌, ◌<◌}
use native.Mathlib.Nat.{le_refl}
use native.Mathlib.Omega.{arith}
use borrow.Author.Tests.{eqb-true, lt-ltb, le-ltb}
use lib.Dec.{ltb, eqb}
use Rattle.model.specs.Refusals.{◌or_else◌, check_of}
use Rattle.model.specs.Bytes.{byte_at}
use Rattle.model.specs.Fields.{Field, behind, fields_end, walk, past, parts_in, present}
use Rattle.model.specs.File.{shape_field, ceiling_field, weights_field, thicknesses_field, wedge_field, gauged, gauged_optional, carried}
use Rattle.model.specs.CoefficientFile.{diagonals_field, rights_field, ups_field, sources_field}
use Rattle.model.proofs.Optional.{part_if, Rising}
use Rattle.fields.specs.Tags.{field_for, test_of, Room}
use Rattle.fields.proofs.Tags.{size_low}
use Rattle.model.specs.declared.Refusal.{Refusal}
use Rattle.view.specs.declared.Kind.{Kind}
use Rattle.view.specs.declared.Kind.TheVariants.{Thicknesses, Coefficients}
use Rattle.view.specs.declared.Step.{Step}
use Rattle.view.specs.Walks.{kind_of, next_optional, next_tag, Takes, Walks}

module _ (l : List ℕ) (n t : ℕ) (kind : Kind) where
  -- the tag of the field behind that of a tag, which ends at an offset
  abbrev after_tag : ℕ → ℕ → Option ℕ
  after_tag tag at = next_tag kind tag (byte_at l at)

  -- the fields that stand behind it: each is the one that its tag names, and tags rise
  abbrev Follow : ℕ → ℕ → List Field → Type 0
  Follow tag at [] = after_tag tag at ≡ None
  Follow tag at (f ∷ fs) =
      (after_tag tag at ≡ Some f.tag) × ((tag < f.tag) × (f.tag ≤ 10)) × (field_for l f.tag n t ≡ f) × Follow f.tag (behind at f.size) fs

  -- ---- optional fields

  -- each is the one that its tag names
  abbrev Named : List Field → Type 0
  Named [] = Unit {0}
  Named (f ∷ fs) = ((field_for l f.tag n t ≡ f) × (f.tag ≤ 10)) × Named fs

  -- one whose tag does not stand there, or that is not behind a tag, is not the next
  skipped : (f : Field) (fs : List Field) (tag byte : ℕ) → (eqb byte f.tag && ltb tag f.tag) ≡ false → next_optional (f ∷ fs) tag byte ≡ next_optional fs tag byte
  skipped f fs tag byte e = ap (λ b. cond b (Some byte) (next_optional fs tag byte)) e

  and_false : (a : Bool) → (a && false) ≡ false
  and_false true = refl
  and_false false = refl

  behind_it : (f : Field) (fs : List Field) (k byte : ℕ) → f.tag ≤ k → next_optional (f ∷ fs) k byte ≡ next_optional fs k byte
  behind_it f fs k byte h =
      skipped f fs k byte (ap (λ b. eqb byte f.tag && b) (le-ltb k f.tag h) ∙ and_false (eqb byte f.tag))

  -- Of a list whose tags rise from above `low` on, those that stand in the file follow a tag up to `low`, if the walk chooses among them.
  follow_optional : (fs : List Field) (low tag at : ℕ) → Rising low fs → Named fs → tag ≤ low
      → after_tag tag at ≡ next_optional fs tag (byte_at l at) → ((k byte : ℕ) → low < k → next_tag kind k byte ≡ next_optional fs k byte)
      → Follow tag at (present fs (parts_in fs l at))
  follow_optional [] low tag at r named h here later = here
  follow_optional (f ∷ fs) low tag at r named h here later =
      go (eqb (byte_at l at) f.tag) refl
      (λ e. follow_optional fs f.tag f.tag (behind at f.size) r.1 named.1 (le_refl f.tag)
      (later f.tag (byte_at l (behind at f.size)) r.0 ∙ behind_it f fs f.tag (byte_at l (behind at f.size)) (le_refl f.tag)) rest)
      (λ e. follow_optional fs f.tag tag at r.1 named.1 (omega (arith, r.0))
      (here ∙ skipped f fs tag (byte_at l at) (ap (λ b. b && ltb tag f.tag) e)) rest)
    where
      rest : (k byte : ℕ) → f.tag < k → next_tag kind k byte ≡ next_optional fs k byte
      rest k byte b = later k byte (omega (arith, r.0)) ∙ behind_it f fs k byte (omega arith)

      go : (b : Bool) → eqb (byte_at l at) f.tag ≡ b
          → (eqb (byte_at l at) f.tag ≡ true → Follow f.tag (behind at f.size) (present fs (parts_in fs l (behind at f.size))))
          → (eqb (byte_at l at) f.tag ≡ false → Follow tag at (present fs (parts_in fs l at)))
          → Follow tag at (present (f ∷ fs) (part_if b f l at ∷ parts_in fs l (past (part_if b f l at) f at)))
      go true e there none =
          let same : byte_at l at ≡ f.tag = eqb-true (byte_at l at) f.tag e in
          let up : ltb tag f.tag ≡ true = lt-ltb tag f.tag (omega (arith, r.0)) in
          let next : after_tag tag at ≡ Some f.tag = here ∙ ap₂ (λ a b. cond (a && b) (Some (byte_at l at)) (next_optional fs tag (byte_at l at))) e up ∙ ap Some same in
          (next, (omega (arith, r.0), named.0.1), named.0.0, there e)
      go false e there none = none e

  -- ---- a walk

  -- the fields before that tag have passed, and its own should stand at that offset, the others behind it
  pub record On (tag at : ℕ) : Type 0 where
    pub low : 1 ≤ tag
    pub high : tag ≤ 10
    pub near : at ≤ (tag - 1) * 520203
    pub named : (field_for l tag n t).tag ≡ tag
    pub others : List Field
    pub follow : Follow tag (behind at (field_for l tag n t).size) others
    pub tests : walk (kind_of kind n t l) l 0 ≡ walk (field_for l tag n t ∷ others) l at
    pub end : fields_end (kind_of kind n t l) 0 ≡ fields_end (field_for l tag n t ∷ others) at

  -- the film's sides are small, so no field stands far from the start
  module _ (few : (n ≤ 65025) × (t ≤ 66049)) {tag at : ℕ} (o : On tag at) where
    pub room : Room at n t
    room = record { at_low = omega (arith, o.near, o.high); cells_few = few.0; ring_few = few.1 }

    abbrev after : ℕ
    after = behind at (field_for l tag n t).size

    -- another follows: the walk goes on behind it
    on_with : (fs : List Field) {next : ℕ} → Follow tag after fs → walk (kind_of kind n t l) l 0 ≡ walk fs l after
        → fields_end (kind_of kind n t l) 0 ≡ fields_end fs after → after_tag tag after ≡ Some next → On next after × (tag < next)
    on_with [] p tests end more = absurd cc
    on_with (g ∷ gs) {next} p tests end more =
        let same : g.tag ≡ next = cc in
        let is : field_for l next n t ≡ g = ap (λ (k : ℕ). field_for l k n t) (sym same) ∙ p.2 in
        let up : tag < next = omega (arith, same, p.1.0) in
        let on : On next after =
        record {
          low = omega (arith, up);
          high = omega (arith, same, p.1.1);
          near = omega (arith, up, o.near, o.low, size_low l tag n t few.0 few.1);
          named = ap (λ h. h.tag) is ∙ same;
          others = gs;
          follow = subst (λ (k : ℕ). Follow next (behind after k) gs) (ap (λ h. h.size) (sym is)) (subst (λ (k : ℕ). Follow k (behind after g.size) gs) same p.3);
          tests = tests ∙ ap (λ h. walk (h ∷ gs) l after) (sym is);
          end = end ∙ ap (λ h. fields_end (h ∷ gs) after) (sym is);
        } in
        (on, up)

    -- none follows
    none : (fs : List Field) → Follow tag after fs → after_tag tag after ≡ None → fs ≡ []
    none [] p e = refl
    none (g ∷ gs) p e = absurd cc

    module _ (r : Result Step Refusal) (S : Takes kind n t tag l at r) where
      found : walk (kind_of kind n t l) l 0 ≡ (check_of r or_else walk o.others l after)
      found =
          o.tests ∙ ap (λ c. c or_else walk o.others l after) (sym (S.finds ∙ ap (λ k. test_of (field_for l tag n t) k l at) (sym o.named)))

      module _ {s : Step} (e : r ≡ Ok s) where
        passes : walk (kind_of kind n t l) l 0 ≡ walk o.others l after
        passes = found ∙ ap (λ (x : Result Step Refusal). check_of x or_else walk o.others l after) e

        follows : s.tag ≡ after_tag tag after
        follows = S.then s e ∙ ap (after_tag tag) (S.goes_on s e)

        pub goes : {next : ℕ} → s.tag ≡ Some next → On next s.next × (tag < next)
        goes {next} p =
            subst (λ (k : ℕ). On next k × (tag < next)) (sym (S.goes_on s e)) (on_with o.others o.follow passes o.end (sym follows ∙ p))

        pub stops : s.tag ≡ None → Walks (kind_of kind n t l) l (Ok s.next)
        stops p =
            let last = none o.others o.follow (sym follows ∙ p) in
            record {
              finds = sym (passes ∙ ap (λ fs. walk fs l after) last);
              comes = λ end q. let same : s.next ≡ end = cc in sym same ∙ S.goes_on s e ∙ sym (o.end ∙ ap (λ fs. fields_end fs after) last);
            }

-- a walk begins with the first field, and the others of its kind follow
module _ (l : List ℕ) (n t : ℕ) where
  first : (kind : Kind) (others : List Field) → kind_of kind n t l ≡ shape_field ∷ others → Follow l n t kind 1 5 others → On l n t kind 1 0
  first kind others e f =
      record {
        low = omega arith;
        high = omega arith;
        near = omega arith;
        named = refl;
        others = others;
        follow = f;
        tests = ap (λ fs. walk fs l 0) e;
        end = ap (λ fs. fields_end fs 0) e;
      }

  pub begins : (kind : Kind) → On l n t kind 1 0
  begins Thicknesses =
      let end : ℕ = fields_end (gauged (carried l n) t) 0 in
      let optional : Follow l n t Thicknesses 5 end (present gauged_optional (parts_in gauged_optional l end)) =
      follow_optional l n t Thicknesses gauged_optional 5 5 end (omega arith, tt) ((refl, omega arith), tt) (omega arith) refl
      (λ k byte h. ap (λ b. cond b (Some (k + 1)) (next_optional gauged_optional k byte)) (le-ltb k 5 (omega arith))) in
      first Thicknesses (ceiling_field ∷ weights_field (carried l n) ∷ thicknesses_field t ∷ wedge_field ∷ present gauged_optional (parts_in gauged_optional l end)) refl (
        refl,
        (omega arith, omega arith),
        refl,
        (refl, (omega arith, omega arith), refl, (refl, (omega arith, omega arith), refl, (refl, (omega arith, omega arith), refl, optional))),
      )
  begins Coefficients =
      first Coefficients (ceiling_field ∷ weights_field (carried l n) ∷ diagonals_field n ∷ rights_field n ∷ ups_field n ∷ sources_field n ∷ []) refl
      (refl, (omega arith, omega arith), refl, (refl, (omega arith, omega arith), refl, (refl, (omega arith, omega arith), refl, (refl, (omega arith, omega arith), refl, (refl, (omega arith, omega arith), refl, (refl, (omega arith, omega arith), refl, refl))))))
