-- Calls that are taken from the last to the first, each with the place from which the one before it was made.
use Rattle.std.proofs.Common.{◌≡◌, true, false, List, [], ◌∷◌, ◌++◌, Option, Some, None, option_map, is_some, map, reverse, refl, sym, ap, ◌∙◌, subst, append_assoc}
use Rattle.std.proofs.lemmas.List.{reverse-append, map-append}
use Rattle.blz_model.specs.Answers.{Site, Inlined}
use Rattle.blz_resolver.specs.CallFrames.{shown_site, site_of_next, moved, frames, frames_from, one_place}

pub next_of_last : (calls : List Inlined) (c : Inlined) (last : Option Site) → site_of_next (calls ++ c ∷ []) last ≡ site_of_next calls c.site
next_of_last [] c last = refl
next_of_last (x ∷ rest) c last = refl

abbrev pub last_call : Inlined → Option Site → Inlined
last_call c last = record { name = c.name; site = option_map shown_site last }

pub moved_last : (calls : List Inlined) (c : Inlined) (last : Option Site) → moved (calls ++ c ∷ []) last ≡ moved calls c.site ++ last_call c last ∷ []
unfolding moved
moved_last [] c last = refl
moved_last (x ∷ rest) c last =
    rw (next_of_last rest c last) (ap (λ (inlined : List Inlined). record { name = x.name; site = option_map shown_site (site_of_next rest c.site) } ∷ inlined) (moved_last rest c last))

-- one call more is taken from the end
pub moved_on : (calls : List Inlined) (c : Inlined) (last : Option Site) (out all : List Inlined) → moved (calls ++ c ∷ []) last ++ reverse out ≡ all → moved calls c.site ++ reverse (out ++ last_call c last ∷ []) ≡ all
moved_on calls c last out all so_far =
    ap (λ (behind : List Inlined). moved calls c.site ++ behind) (reverse-append out (last_call c last ∷ []))
    ∙ sym (append_assoc (moved calls c.site) (last_call c last ∷ []) (reverse out))
    ∙ sym (ap (λ (front : List Inlined). front ++ reverse out) (moved_last calls c last)) ∙ so_far

left_by : (direct : Site) (calls : List Inlined) (outermost : Option Site) → is_some outermost ≡ true → frames_from direct calls outermost ≡ record { site = option_map shown_site outermost; inlined = moved calls (Some direct) }
left_by direct calls None known = absurd cc
left_by direct calls (Some outermost) known = refl

pub frames_left : (direct : Site) (calls : List Inlined) → is_some (site_of_next calls None) ≡ true → frames direct calls ≡ record { site = option_map shown_site (site_of_next calls (Some direct)); inlined = moved calls (Some direct) }
frames_left direct [] known = absurd cc
frames_left direct (c ∷ rest) known = left_by direct (c ∷ rest) c.site known

kept_by : (direct : Site) (calls : List Inlined) (outermost : Option Site) → is_some outermost ≡ false → frames_from direct calls outermost ≡ record { site = Some (shown_site direct); inlined = moved calls None }
kept_by direct calls None known = refl
kept_by direct calls (Some outermost) known = absurd cc

pub frames_kept : (direct : Site) (calls : List Inlined) → is_some (site_of_next calls None) ≡ false → frames direct calls ≡ record { site = Some (shown_site direct); inlined = moved calls None }
frames_kept direct calls known = kept_by direct calls (site_of_next calls None) known

pub map_reverse : {A B : Type 0} (f : A → B) (xs : List A) → map f (reverse xs) ≡ reverse (map f xs)
map_reverse f [] = refl
map_reverse {B = B} f (x ∷ xs) =
    ap (map f) (reverse-append (x ∷ []) xs) ∙ map-append f (reverse xs) (x ∷ [])
    ∙ ap (λ (ys : List B). ys ++ f x ∷ []) (map_reverse f xs) ∙ sym (reverse-append (f x ∷ []) (map f xs))

-- no call is left
pub moved_all : (calls : List Inlined) (last : Option Site) (out all : List Inlined) → calls ≡ [] → moved calls last ++ reverse out ≡ all → reverse out ≡ all
unfolding moved
moved_all calls last out all none so_far = let P : List Inlined → Type 0 = λ calls. moved calls last ++ reverse out ≡ all in subst P none so_far

pub frames_of_none : (direct : Site) (calls : List Inlined) → calls ≡ [] → frames direct calls ≡ one_place direct
unfolding moved
frames_of_none direct calls none = let P : List Inlined → Type 0 = λ calls. frames direct calls ≡ one_place direct in subst P (sym none) refl
