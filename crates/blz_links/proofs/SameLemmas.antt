-- When two paths have the same components.
use Rattle.std.proofs.Common.{◌≡◌, ◌↔◌, Bool, true, IsTrue, List, ℕ, filter, get_or, All, Option, Some, None, refl, sym, ap, ◌∙◌}
use Rattle.std.specs.Bool.{beq}
use Rattle.std.specs.Cmp.{booleans_Decides}
use Rattle.std.specs.Cmp.Lexicographic.{pointwise}
use Rattle.std.specs.Str.{bytes_eq}
use Rattle.std.proofs.lemmas.Bool.{and_from, and_parts, both_ways, not-true}
use Rattle.std.proofs.lemmas.List.Elements.{filter_passes}
use Rattle.std.proofs.lemmas.Slice.Eq.{bytes_eq-Decides, slice_eq-Decides}
use Rattle.blz_links.specs.Candidates.{HasOther, is_other}
use Rattle.blz_links.specs.Paths.{Components, components_of, same_components}

pub same_components_decides : (a b : List ℕ) (r : Bool) → r ≡ same_components a b → IsTrue r ↔ (components_of a ≡ components_of b)
unfolding same_components
same_components_decides a b r e =
    let made : Bool → List (List ℕ) → Components = λ rooted texts. record { is_rooted = rooted; texts = texts } in
    let ca = components_of a in
    let cb = components_of b in
    let roots = booleans_Decides ca.is_rooted cb.is_rooted in
    let texts = slice_eq-Decides bytes_eq-Decides ca.texts cb.texts (pointwise bytes_eq ca.texts cb.texts) refl in (
      λ same.
          let parts = and_parts (beq ca.is_rooted cb.is_rooted) (pointwise bytes_eq ca.texts cb.texts) (sym e ∙ same) in
          ap (λ x. made x ca.texts) (roots.0 parts.0) ∙ ap (λ x. made cb.is_rooted x) (texts.0 parts.1),
      λ equal.
          e ∙ and_from (beq ca.is_rooted cb.is_rooted) (pointwise bytes_eq ca.texts cb.texts) (roots.1 (ap (λ c. c.is_rooted) equal)) (texts.1 (ap (λ c. c.texts) equal)),
    )

-- what is kept of the candidates has other components than the linker
other_components : (linker : Option (List ℕ)) (path : List ℕ) → is_other linker path ≡ true → HasOther linker path
other_components None path e = tt
other_components (Some linker) path e =
    λ equal. both_ways (same_components path linker) (not-true (same_components path linker) e) ((same_components_decides path linker (same_components path linker) refl).1 equal)

pub all_other : (linker : Option (List ℕ)) (paths : List (List ℕ)) → All (HasOther linker) (filter (is_other linker) paths)
all_other linker paths k d within = other_components linker (get_or (filter (is_other linker) paths) k d) (filter_passes (is_other linker) paths k d within)
