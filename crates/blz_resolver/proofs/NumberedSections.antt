-- The data of a section by its name is that of its number.
use Rattle.std.proofs.Common.{◌≡◌, ◌⊎◌, ◌<◌, ◌≤◌, ◌+◌, ◌-◌, ◌∷◌, ◌∙◌, ℕ, suc, Bool, true, false, List, [], Option, Some, None, length, drop, map, get_or, inl, inr, refl, sym, ap, subst, arith}
use Rattle.std.specs.Prelude.{slice_get, cond}
use Rattle.std.specs.List.{position_from}
use Rattle.std.specs.Str.{bytes_eq}
use Rattle.std.proofs.lemmas.List.{length-map, length-drop}
use Rattle.std.proofs.lemmas.Option.{slice_get_cases}
use Rattle.blz_model.specs.Part.{Part, Good, Broken, ◌>>=◌, all_good}
use Rattle.blz_model.specs.Texts.{name_at}
use Rattle.blz_model.proofs.PartLemmas.{bind_good}
use Rattle.blz_image.specs.Headers.{header_of}
use Rattle.blz_image.specs.Images.{Elf, elf_of, name_table, names_of, section_named, section_called, data_named, image_section, image_section_data, image_data_named}
use Rattle.blz_image.specs.Sections.{sections_of}
use Rattle.blz_image.specs.declared.section.Section.{Section}
use Rattle.blz_resolver.specs.DebugSections.{Located, data_numbered, located, name_of}
use Rattle.blz_resolver.specs.declared.debug.debug_section.DebugSection.{DebugSection}

good_is : {A : Type 0} (x y : A) → Good x ≡ Good y → x ≡ y
good_is x y e = cc

-- ---- the parts of an image that is read

record Parts (image : List ℕ) (elf : Elf) : Type 0 where
  header : header_of image ≡ Good elf.header
  sections : sections_of image elf.header ≡ Good elf.sections
  texts : List ℕ
  names : names_of texts elf.sections ≡ Good elf.names
  same : elf.image ≡ image

parts_of : (image : List ℕ) (elf : Elf) → elf_of image ≡ Good elf → Parts image elf
unfolding elf_of
parts_of image elf e =
    let header = bind_good (header_of image) _ elf e in
    let sections = bind_good (sections_of image header.0) _ elf header.2 in
    let texts = bind_good (name_table image header.0 sections.0) _ elf sections.2 in
    let names = bind_good (names_of texts.0 sections.0) _ elf texts.2 in
    let is : record { image = image; header = header.0; sections = sections.0; names = names.0 } ≡ elf = good_is _ _ names.2 in
    let P : Elf → Type 0 = λ elf. Parts image elf in
    subst P is (record { header = header.1; sections = sections.1; texts = texts.0; names = names.1; same = refl })

-- ---- a number that is found is one of the table

good_length : {A : Type 0} (ps : List (Part A)) (xs : List A) → all_good ps ≡ Good xs → length xs ≡ length ps
good_length [] xs e = ap length (sym (good_is [] xs e))
good_length (p ∷ ps) xs e =
    let first = bind_good p (λ y. all_good ps >>= λ ys. Good (y ∷ ys)) xs e in
    let rest = bind_good (all_good ps) (λ ys. Good (first.0 ∷ ys)) xs first.2 in
    ap length (sym (good_is (first.0 ∷ rest.0) xs rest.2)) ∙ ap (λ (n : ℕ). suc n) (good_length ps rest.0 rest.1)

found_at : (test : List ℕ → Bool) (i : ℕ) (names : List (List ℕ)) (n : ℕ) → position_from test i names ≡ Some n → (i ≤ n) × (n < i + length names)
found_at test i [] n e = absurd cc
found_at test i (name ∷ names) n e = by_test (test name) e (found_at test (i + 1) names n)
  where
    by_test : (b : Bool) → cond b (Some i) (position_from test (i + 1) names) ≡ Some n → (position_from test (i + 1) names ≡ Some n → (i + 1 ≤ n) × (n < i + 1 + length names)) → (i ≤ n) × (n < i + length (name ∷ names))
    by_test true e later = let is : i ≡ n = cc in (omega (arith, is), omega (arith, is))
    by_test false e later = let rest = later e in (omega (arith, rest.0), omega (arith, rest.1))

there : (xs : List Section) (n : ℕ) → n < length xs → (s : Section) × (slice_get xs n ≡ Some s)
there xs n lt = by_cases (slice_get_cases xs n).1
  where
    by_cases : ((s : Section) × (n < length xs) × (slice_get xs n ≡ Some s) × (get_or xs n s ≡ s)) ⊎ ((length xs ≤ n) × (slice_get xs n ≡ None)) → (s : Section) × (slice_get xs n ≡ Some s)
    by_cases (inl found) = (found.0, found.2)
    by_cases (inr past) = absurd (omega (arith, past.0, lt))

named_there : (image name : List ℕ) (elf : Elf) (n : ℕ) → Parts image elf → section_named elf name ≡ Some n → (s : Section) × (slice_get elf.sections n ≡ Some s)
unfolding section_named names_of
named_there image name elf n parts e =
    let at = found_at (λ m. bytes_eq m name) 1 elf.names n e in
    let count : length elf.names ≡ length elf.sections - 1 =
    good_length (map (λ (s : Section). name_at parts.texts s.name_offset) (drop 1 elf.sections)) elf.names parts.names
    ∙ length-map (drop 1 elf.sections) (λ (s : Section). name_at parts.texts s.name_offset) ∙ length-drop 1 elf.sections in
    there elf.sections n (omega (arith, at.0, at.1, count))

named_data : (image name : List ℕ) (elf : Elf) → Parts image elf → (o : Option ℕ) → section_named elf name ≡ o → data_named elf name ≡ data_numbered image o
unfolding data_named section_called image_section_data
named_data image name elf parts None e = rw e refl
named_data image name elf parts (Some n) e = at_number (named_there image name elf n parts e).0 (named_there image name elf n parts e).1
  where
    at_number : (s : Section) → slice_get elf.sections n ≡ Some s → data_named elf name ≡ data_numbered image (Some n)
    at_number s at = rw (e, at, parts.header, parts.sections, at, parts.same) refl

abbrev located_as : Option ℕ → List ℕ → Part Located
located_as number bytes = Good (record { bytes = bytes; number = number })

located_by : (image : List ℕ) (section : DebugSection) (p : Part Elf) → elf_of image ≡ p
    → located image section ≡ (image_section image (name_of section) >>= λ number. data_numbered image number >>= located_as number)
unfolding located image_section image_data_named
located_by image section (Good elf) e =
    let number : Option ℕ = section_named elf (name_of section) in
    rw e (ap (λ (p : Part (List ℕ)). p >>= located_as number) (named_data image (name_of section) elf (parts_of image elf e) number refl))
located_by image section (Broken k) e = rw e refl

-- a section is found by its number, and its data taken by that
pub located_numbered : (image : List ℕ) (section : DebugSection)
    → located image section ≡ (image_section image (name_of section) >>= λ number. data_numbered image number >>= located_as number)
located_numbered image section = located_by image section (elf_of image) refl
