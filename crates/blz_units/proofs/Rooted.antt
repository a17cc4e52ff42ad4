-- The root of a unit does not depend on where its sections lie in memory.
use Rattle.std.proofs.Common.{◌≡◌, ℕ, List, [], ◌∷◌, Option, Some, None, refl, ap, ◌∙◌}
use Rattle.std.specs.Prelude.{option_and_then, if◌then◌else◌}
use Rattle.blz_model.specs.Reads.{◌>>=◌}
use Rattle.blz_info.specs.Abbrevs.{Abbrev}
use Rattle.blz_entry.specs.Folds.{fold_maybe}
use Rattle.blz_entry.specs.Roots.{root_attributes, noted_step, nothing_noted, based, low_behind, root_step, root_of}
use Rattle.blz_entry.specs.StringPlaces.{string_of}
use Rattle.blz_info.specs.Walks.{source_of}
use Rattle.blz_entry.specs.declared.ranges.RangeAttributes.{RangeAttributes}
use Rattle.blz_entry.specs.declared.root.UnitRoot.{UnitRoot}
use Rattle.blz_info.specs.declared.section.Sections.{Sections}
use Rattle.blz_info.specs.declared.text.StrPlace.{StrPlace}
use Rattle.blz_info.specs.declared.units.UnitHeader.{UnitHeader}
use Rattle.blz_info.specs.declared.forms.value.AttrValue.{AttrValue}
use Rattle.blz_info.specs.FileSections.{sections_view}
use Rattle.blz_functions.specs.Leaves.{lying}
use Rattle.blz_functions.proofs.Lying.{string_lying, range_step_lying}

pub bind_same : {A B : Type 0} (o : Option A) (f g : A → Option B) → ((x : A) → f x ≡ g x) → (o >>= f) ≡ (o >>= g)
bind_same None f g h = refl
bind_same (Some x) f g h = h x

step_lying : (s : Sections) (h : UnitHeader) (root : UnitRoot) (a : ℕ × AttrValue) → root_step s h root a ≡ root_step (lying (sections_view s)) h root a
unfolding root_step
step_lying s h root a = ap (λ (o : Option RangeAttributes). o >>= λ ranges. Some (record root { ranges = ranges; low_pc = low_behind root ranges a })) (range_step_lying s h root root.ranges a.0 a.1)

steps_lying : (s : Sections) (h : UnitHeader) (root : UnitRoot) (values : List (ℕ × AttrValue)) → fold_maybe (root_step s h) root values ≡ fold_maybe (root_step (lying (sections_view s)) h) root values
steps_lying s h root [] = refl
steps_lying s h root (a ∷ values) =
    ap (λ (o : Option UnitRoot). o >>= λ r. fold_maybe (root_step s h) r values) (step_lying s h root a) ∙ bind_same (root_step (lying (sections_view s)) h root a) _ _ (λ r. steps_lying s h r values)

name_lying : (s : Sections) (h : UnitHeader) (root : UnitRoot) (o : Option AttrValue) → option_and_then (string_of s h root) o ≡ option_and_then (string_of (lying (sections_view s)) h root) o
name_lying s h root None = refl
name_lying s h root (Some v) = string_lying s h root v

named : (s : Sections) (h : UnitHeader) (name dir : Option AttrValue) (root : UnitRoot) → UnitRoot
named s h name dir root = record root { name = option_and_then (string_of s h root) name; comp_dir = option_and_then (string_of s h root) dir }

named_lying : (s : Sections) (h : UnitHeader) (name dir : Option AttrValue) (root : UnitRoot) → named s h name dir root ≡ named (lying (sections_view s)) h name dir root
unfolding named
named_lying s h name dir root =
    ap (λ (n : Option StrPlace). record root { name = n; comp_dir = option_and_then (string_of s h root) dir }) (name_lying s h root name)
    ∙ ap (λ (d : Option StrPlace). record root { name = option_and_then (string_of (lying (sections_view s)) h root) name; comp_dir = d }) (name_lying s h root dir)

abbrev finished : Sections → UnitHeader → List (ℕ × AttrValue) → UnitRoot → Option UnitRoot
finished s h values root = if s.split then Some root else fold_maybe (root_step s h) root values

finished_lying : (s : Sections) (h : UnitHeader) (values : List (ℕ × AttrValue)) (name dir : Option AttrValue) (root : UnitRoot) → finished s h values (record root { name = option_and_then (string_of s h root) name; comp_dir = option_and_then (string_of s h root) dir }) ≡ finished (lying (sections_view s)) h values (record root { name = option_and_then (string_of (lying (sections_view s)) h root) name; comp_dir = option_and_then (string_of (lying (sections_view s)) h root) dir })
unfolding named
finished_lying s h values name dir root =
    ap (λ (o : Option UnitRoot). if s.split then Some (named s h name dir root) else o) (steps_lying s h (named s h name dir root) values)
    ∙ ap (λ (r : UnitRoot). finished (lying (sections_view s)) h values r) (named_lying s h name dir root)

pub root_lying : (s : Sections) (h : UnitHeader) (table : List Abbrev) → root_of s h table ≡ root_of (lying (sections_view s)) h table
unfolding root_of
root_lying s h table =
    bind_same (root_attributes (source_of s h table) h.entries) _ _ (λ values. bind_same (fold_maybe noted_step nothing_noted values) _ _ (λ noted_values. finished_lying s h values noted_values.name noted_values.comp_dir (based s h noted_values)))
