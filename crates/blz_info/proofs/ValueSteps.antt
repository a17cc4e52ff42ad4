-- Reading the next attribute of a walk.
use Rattle.std.proofs.Common.{◌≡◌, Option, Some, None, refl, ap, ◌∙◌, inl, inr}
use Rattle.std.specs.Prelude.{◌⊎◌}
use Rattle.std.proofs.lemmas.Option.{some_pair_parts}
use Rattle.blz_info.specs.Attributes.{attribute}
use Rattle.blz_info.specs.Walks.{Source, Walk, value_of}
use Rattle.blz_info.specs.declared.abbreviations.AttrSpec.{AttrSpec}
use Rattle.blz_info.specs.declared.forms.value.AttrValue.{AttrValue}

pub look : {A : Type 0} (o : Option A) → (o ≡ None) ⊎ ((x : A) × (o ≡ Some x))
look None = inl refl
look (Some x) = inr (x, refl)

pub value_is : (spec : AttrSpec) (u : Source) (w new : Walk) (v : AttrValue) → w.source ≡ u → value_of spec w ≡ Some (v, new) → attribute spec u.encoding u.base u.section w.place ≡ Some (v, new.place)
unfolding value_of
value_is spec u w new v same h =
    elim (look (attribute spec w.source.encoding w.source.base w.source.section w.place)) [
      | inl e ↦ absurd (let k = rw e at h in cc)
      | inr p ↦
          let k = some_pair_parts _ _ _ _ (rw p.1 at h) in
          let place : p.0.1 ≡ new.place = ap (λ (w : Walk). w.place) k.1 in
          rw (← same) (p.1 ∙ rw (← k.0, ← place) refl)
    ]

pub value_none : (spec : AttrSpec) (u : Source) (w : Walk) → w.source ≡ u → value_of spec w ≡ None → attribute spec u.encoding u.base u.section w.place ≡ None
unfolding value_of
value_none spec u w same h =
    elim (look (attribute spec w.source.encoding w.source.base w.source.section w.place)) [
      | inl e ↦ rw (← same) e
      | inr p ↦ absurd (let k = rw p.1 at h in cc)
    ]
