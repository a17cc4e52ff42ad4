-- One unit more among those that are kept.
use Rattle.std.proofs.Common.{◌≡◌, ◌≤◌, ℕ, true, false, List, [], ◌∷◌, ◌++◌, length, length-append, Option, Some, None, refl, sym, ap, ◌∙◌, arith}
use Rattle.std.proofs.lemmas.Bool.{false≢true}
use Rattle.blz_error.specs.declared.kind.ErrorKind.{ErrorKind}
use Rattle.blz_model.specs.Part.{Good, Fails}
use Rattle.blz_model.specs.Reads.{◌>>=◌}
use Rattle.blz_info.specs.Marks.{or_invalid}
use Rattle.blz_ranges.specs.declared.span.Span.{Span}
use Rattle.blz_info.specs.declared.units.UnitHeader.{UnitHeader}
use Rattle.blz_info.proofs.Marked.{marks_on}
use Rattle.blz_ranges.specs.Owned.{Owned, owned, own_all, filled_up}
use Rattle.blz_units.specs.UnitTables.{KeptUnits, added_to, keep}
use Rattle.blz_units.proofs.Appended.{list_of, flag_of}
use Rattle.blz_ranges.proofs.OwnedItems.{owned_more}

-- the units with one more, by what it announces
abbrev pub with_it : KeptUnits → UnitHeader → Option (Option (List Span)) → Option KeptUnits
with_it k h o = o >>= λ spans. Some (keep k h spans)

with_ranges : (k : KeptUnits) (h : UnitHeader) (old new spans : List Span) (owners : List ℕ) → k.announced ≡ owned old owners → length old ≡ length owners → old ++ spans ≡ new → keep k h (Some spans) ≡ record { kept = k.kept ++ h ∷ []; announced = owned new (filled_up owners (length k.kept) (length new)) }
with_ranges k h old new spans owners e same is =
    let made = owned_more old spans owners (length k.kept) (length new) same (ap length (sym is)) in
    let whole : k.announced ++ own_all (length k.kept) spans ≡ owned new (filled_up owners (length k.kept) (length new)) =
    ap (λ (l : List (Owned Span)). l ++ own_all (length k.kept) spans) e ∙ sym made ∙ ap (λ (l : List Span). owned l (filled_up owners (length k.kept) (length new))) is in
    ap (λ (l : List (Owned Span)). record { kept = k.kept ++ h ∷ []; announced = l }) whole

pub kept_more : (k : KeptUnits) (h : UnitHeader) (o : Option (Option (List Span))) (old new : List Span) (owners : List ℕ) → k.announced ≡ owned old owners → length old ≡ length owners → added_to old o ≡ Some (new, true) → with_it k h o ≡ Some (record { kept = k.kept ++ h ∷ []; announced = owned new (filled_up owners (length k.kept) (length new)) })
kept_more k h None old new owners e same is = absurd cc
kept_more k h (Some None) old new owners e same is = absurd (false≢true (ap flag_of is))
kept_more k h (Some (Some spans)) old new owners e same is = ap (λ (u : KeptUnits). Some u) (with_ranges k h old new spans owners e same (ap list_of is))

pub kept_same : (k : KeptUnits) (h : UnitHeader) (o : Option (Option (List Span))) (old new : List Span) → added_to old o ≡ Some (new, false) → with_it k h o ≡ Some k
kept_same k h None old new is = absurd cc
kept_same k h (Some None) old new is = refl
kept_same k h (Some (Some spans)) old new is = absurd (false≢true (sym (ap flag_of is)))

pub spans_same : (o : Option (Option (List Span))) (old new : List Span) → added_to old o ≡ Some (new, false) → new ≡ old
spans_same None old new is = absurd cc
spans_same (Some None) old new is = sym (ap list_of is)
spans_same (Some (Some spans)) old new is = absurd (false≢true (sym (ap flag_of is)))

lost : (k : KeptUnits) (h : UnitHeader) (o : Option (Option (List Span))) (old : List Span) → added_to old o ≡ None → with_it k h o ≡ None
lost k h None old e = refl
lost k h (Some spans) old e = absurd cc

pub kept_fails : (k : KeptUnits) (h : UnitHeader) (o : Option (Option (List Span))) (old : List Span) (kind : ErrorKind) → Fails kind (or_invalid (added_to old o)) → Fails kind (or_invalid (with_it k h o))
kept_fails k h o old kind fails = marks_on kind (added_to old o) (with_it k h o) fails (lost k h o old)

-- more ranges than before
pub grown : (o : Option (Option (List Span))) (old new : List Span) → added_to old o ≡ Some (new, true) → length old ≤ length new
grown None old new is = absurd cc
grown (Some None) old new is = absurd (false≢true (ap flag_of is))
grown (Some (Some spans)) old new is = let made : old ++ spans ≡ new = ap list_of is in let k = length-append old spans in let l = ap length made in omega arith

-- ---- the same as the parts of a value

abbrev pub kept_view : List UnitHeader → List Span → List ℕ → KeptUnits
kept_view kept spans owners = record { kept = kept; announced = owned spans owners }

pub kept_still : (kept : List UnitHeader) (h : UnitHeader) (o : Option (Option (List Span))) (old new : List Span) (owners : List ℕ) → added_to old o ≡ Some (new, false) → or_invalid (with_it (kept_view kept old owners) h o) ≡ Good (kept_view kept new owners)
kept_still kept h o old new owners is =
    ap (λ (k : Option KeptUnits). or_invalid k) (kept_same (kept_view kept old owners) h o old new is) ∙ ap (λ (l : List Span). Good (kept_view kept l owners)) (sym (spans_same o old new is))
