-- The causes under a list of contexts that is kept with the outermost last.
use Rattle.std.proofs.Common.{◌≡◌, ◌-◌, ◌≤◌, List, [], ◌∷◌, ◌++◌, length, take, drop, reverse, Some, refl, sym, ap, ◌∙◌, arith, length-drop}
use Rattle.std.proofs.lemmas.List.{reverse-append, take-append-drop}
use Rattle.blz_error.specs.Texts.{Bytes}
use Rattle.blz_error.specs.Reports.{causes_of}

-- the causes under a first text
causes_of-cons : (text : Bytes) (causes : List Bytes) (innermost : Bytes) → causes_of (text ∷ (causes ++ innermost ∷ [])) ≡ Some (causes ++ innermost ∷ [])
causes_of-cons text [] innermost = refl
causes_of-cons text (cause ∷ causes) innermost = refl

causes_of-split : (front back : List Bytes) (innermost : Bytes) → length back ≡ 1 → causes_of (reverse (front ++ back) ++ innermost ∷ []) ≡ Some (reverse front ++ innermost ∷ [])
causes_of-split front [] innermost one = absurd (omega arith)
causes_of-split front (text ∷ []) innermost one = rw (reverse-append front (text ∷ [])) (causes_of-cons text (reverse front) innermost)
causes_of-split front (text ∷ other ∷ back) innermost one = absurd (omega arith)

-- all contexts but the outermost
pub causes_of-contexts : (contexts : List Bytes) (innermost : Bytes) → 1 ≤ length contexts → causes_of (reverse contexts ++ innermost ∷ []) ≡ Some (reverse (take (length contexts - 1) contexts) ++ innermost ∷ [])
causes_of-contexts contexts innermost some =
    let last = length contexts - 1 in
    let one : length (drop last contexts) ≡ 1 = length-drop last contexts ∙ omega arith in
    ap (λ (xs : List Bytes). causes_of (reverse xs ++ innermost ∷ [])) (sym (take-append-drop last contexts))
    ∙ causes_of-split (take last contexts) (drop last contexts) innermost one
