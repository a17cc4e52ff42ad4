-- The section of a name, found from 1 up.
use Rattle.std.proofs.Common.{◌≡◌, ℕ, ◌+◌, ◌-◌, ◌<◌, ◌≤◌, Bool, true, false, cond, List, [], length, get_or, drop, Some, refl, sym, ap, ◌∙◌, arith}
use Rattle.std.specs.List.{position_from}
use Rattle.std.specs.Str.{bytes_eq}
use Rattle.std.proofs.lemmas.List.{get_or-drop, length-drop, length-map, at_drop_more}
use Rattle.blz_model.specs.Part.{Good}
use Rattle.blz_model.specs.Texts.{text_at, name_at}
use Rattle.blz_image.specs.declared.section.Section.{Section}
use Rattle.blz_image.specs.Images.{names_of}
use Rattle.blz_model.proofs.PartLemmas.{all_good_at}
use Rattle.blz_image.specs.Names.{name_in, names_in}
use Rattle.blz_image.proofs.TextLemmas.{name_text}

-- the text of a section's name is the name in the list
pub text_is_name : (texts : List ℕ) (sections : List Section) (i : ℕ) (s : Section) → names_of texts sections ≡ Good (names_in texts sections) → 1 ≤ i → i < length sections → ((d : Section) → get_or sections i d ≡ s) → text_at texts s.name_offset ≡ Some (get_or (names_in texts sections) (i - 1) [])
unfolding names_of
text_is_name texts sections i s good low high here =
    let at : 1 + (i - 1) ≡ i = omega arith in
    let is : get_or (drop 1 sections) (i - 1) s ≡ s = get_or-drop 1 sections (i - 1) s ∙ ap (λ (k : ℕ). get_or sections k s) at ∙ here s in
    let read = all_good_at (λ s. name_at texts s.name_offset) (drop 1 sections) (names_in texts sections) good (i - 1) s [] (omega (arith, length-drop 1 sections)) in
    name_text texts s.name_offset _ (ap (λ (s : Section). name_at texts s.name_offset) (sym is) ∙ read)

-- one step of the search
pub position_step : (p : List ℕ → Bool) (names : List (List ℕ)) (i : ℕ) → 1 ≤ i → i - 1 < length names → position_from p i (drop (i - 1) names) ≡ cond (p (get_or names (i - 1) [])) (Some i) (position_from p (i + 1) (drop i names))
position_step p names i low high =
    let next : i - 1 + 1 ≡ i = omega arith in
    at_drop_more (position_from p i) names (i - 1) [] high ∙ ap (λ (k : ℕ). cond (p (get_or names (i - 1) [])) (Some i) (position_from p (i + 1) (drop k names))) next

pub length_names : (texts : List ℕ) (sections : List Section) → length (names_in texts sections) ≡ length sections - 1
length_names texts sections = length-map (drop 1 sections) (name_in texts) ∙ length-drop 1 sections

-- the section at i has the name
pub position_here : (name text : List ℕ) (names : List (List ℕ)) (i : ℕ) → 1 ≤ i → i - 1 < length names → Some text ≡ Some (get_or names (i - 1) []) → true ≡ bytes_eq text name
    → position_from (λ n. bytes_eq n name) i (drop (i - 1) names) ≡ position_from (λ n. bytes_eq n name) 1 names → Some i ≡ position_from (λ n. bytes_eq n name) 1 names
position_here name text names i low high there same so_far =
    let e : text ≡ get_or names (i - 1) [] = cc in
    let t : bytes_eq (get_or names (i - 1) []) name ≡ true = rw (← e) (sym same) in
    sym (position_step (λ n. bytes_eq n name) names i low high ∙ rw t refl) ∙ so_far

-- the section at i has another name
pub position_on : (name text : List ℕ) (names : List (List ℕ)) (i : ℕ) → 1 ≤ i → i - 1 < length names → Some text ≡ Some (get_or names (i - 1) []) → false ≡ bytes_eq text name
    → position_from (λ n. bytes_eq n name) i (drop (i - 1) names) ≡ position_from (λ n. bytes_eq n name) 1 names → position_from (λ n. bytes_eq n name) (i + 1) (drop (i + 1 - 1) names) ≡ position_from (λ n. bytes_eq n name) 1 names
position_on name text names i low high there same so_far =
    let e : text ≡ get_or names (i - 1) [] = cc in
    let t : bytes_eq (get_or names (i - 1) []) name ≡ false = rw (← e) (sym same) in
    let next : i + 1 - 1 ≡ i = omega arith in
    rw next (sym (position_step (λ n. bytes_eq n name) names i low high ∙ rw t refl) ∙ so_far)

-- the same, of names that are known by another name
pub name_there : (texts : List ℕ) (sections : List Section) (names : List (List ℕ)) (i : ℕ) (s : Section) → names_in texts sections ≡ names → names_of texts sections ≡ Good (names_in texts sections) → 1 ≤ i → i < length sections → ((d : Section) → get_or sections i d ≡ s) → (text_at texts s.name_offset ≡ Some (get_or names (i - 1) [])) × (i - 1 < length names)
name_there texts sections names i s names-is good low high here =
    let n = length_names texts sections in
    rw (← names-is) (text_is_name texts sections i s good low high here, omega (arith, n))
