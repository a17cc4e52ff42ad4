-- A link section breaks as invalid data, or is compressed.
use Rattle.std.proofs.Common.{◌≡◌, ◌≢◌, ℕ, ◌+◌, ◌-◌, ◌<◌, ◌≤◌, Bool, true, false, cond, List, [], ◌∷◌, length, get_or, drop, map, Option, Some, None, Ok, Err, refl, sym, ap, subst, arith}
use Rattle.std.specs.Prelude.{◌==◌, ⊤, codes, not, slice_get, nat_lt, if◌then◌else◌}
use Rattle.std.specs.List.{position_from}
use Rattle.std.specs.Str.{bytes_eq, is_utf8}
use Rattle.std.proofs.lemmas.List.{length-drop}
use Rattle.std.proofs.lemmas.Option.{slice_get-get_or}
use Rattle.blz_error.specs.Texts.{Bytes}
use Rattle.blz_error.specs.Reports.{fault_of}
use Rattle.blz_error.specs.declared.kind.ErrorKind.{ErrorKind}
use Rattle.blz_error.specs.declared.kind.ErrorKind.TheVariants.{InvalidData, NotFound, Unsupported}
use Rattle.blz_model.specs.declared.byte_order.ByteOrder.{ByteOrder}
use Rattle.blz_model.specs.Part.{Part, Good, Broken, ◌>>=◌, all_good}
use Rattle.blz_model.specs.LebNumbers.{uleb}
use Rattle.blz_model.specs.Reads.{number}
use Rattle.blz_model.specs.Texts.{name_at}
use Rattle.blz_bytes.specs.Pieces.{aligned, byte, piece, zero_ended}
use Rattle.blz_model.proofs.PartLemmas.{bind_good}
use Rattle.blz_image.specs.Formats.{compression_size}
use Rattle.blz_image.specs.declared.format.Format.{Format}
use Rattle.blz_image.specs.Headers.{Header, header_of}
use Rattle.blz_image.specs.Sections.{sections_of, raw_data, data_of}
use Rattle.blz_image.specs.declared.section.Section.{Section}
use Rattle.blz_image.specs.Images.{Elf, elf_of, name_table, names_of, section_named, image_order, image_section, image_section_data}
use Rattle.blz_links.specs.LinkChecks as checks
use Rattle.blz_links.specs.LinkChecks.{Checked, as_part, debug_link_of, debug_altlink_of, debug_sup_of, or_text, must, target, is_empty, debug_link_checks, debug_altlink_checks, flag_of, sup_path, sup_checksum, sup_rest, debug_sup_checks}
use Rattle.blz_links.specs.LinkReads.{found, if_found, ordered_data, linked_data, said, link_in, debug_link_in, debug_altlink_in, debug_sup_in}
use Rattle.blz_bundle.proofs.Marks.{Marks, OnMark, marks_good, marks_broken, marks_check, marks_bind, marks_if}

-- ---- the data of a section

marks_raw : (K : ErrorKind → Type 0) → K InvalidData → (bytes : List ℕ) (s : Section) → Marks K (raw_data bytes s)
unfolding raw_data
marks_raw K invalid bytes s = marks_if K _ _ _ (marks_good K []) (marks_bind K _ _ (marks_check K _ InvalidData invalid) (λ inside. marks_good K _))

marks_data : (K : ErrorKind → Type 0) → K InvalidData → K Unsupported → (f : Format) (bytes : List ℕ) (s : Section) → Marks K (data_of f bytes s)
unfolding data_of
marks_data K invalid form f bytes s = marks_bind K _ _ (marks_raw K invalid bytes s) (λ content. marks_if K _ _ _ (marks_broken K _ (by_length (nat_lt (length content) (compression_size f.class)))) (marks_good K content))
  where
    by_length : (b : Bool) → K (if b then InvalidData else Unsupported)
    by_length true = invalid
    by_length false = form

-- ---- a section that was found lies in the table

length_all : {X A : Type 0} (f : X → Part A) (xs : List X) (ys : List A) → all_good (map f xs) ≡ Good ys → length ys ≡ length xs
length_all f [] ys all = ap length (good_is ys [] (sym all))
  where
    good_is : {A : Type 0} (x y : A) → Good x ≡ Good y → x ≡ y
    good_is x y e = cc
length_all f (x ∷ xs) ys all =
    let first = bind_good (f x) (λ y. all_good (map f xs) >>= λ zs. Good (y ∷ zs)) ys all in
    let others = bind_good (all_good (map f xs)) (λ zs. Good (first.0 ∷ zs)) ys first.2 in
    let is : ys ≡ first.0 ∷ others.0 = good_is _ _ others.2 in
    let rest = length_all f xs others.0 others.1 in
    rw (is, rest) refl
  where
    good_is : {A : Type 0} (y x : A) → Good x ≡ Good y → y ≡ x
    good_is y x e = cc

some_is : {A : Type 0} {x y : A} → Some x ≡ Some y → x ≡ y
some_is e = cc

position_step : (b : Bool) (start i n : ℕ) (later : Option ℕ) → cond b (Some start) later ≡ Some i → (later ≡ Some i → (start + 1 ≤ i) × (i < start + 1 + n)) → (start ≤ i) × (i < start + (n + 1))
position_step true start i n later e rest = let is : start ≡ i = some_is e in (omega arith, omega arith)
position_step false start i n later e rest = let below = rest e in (omega arith, omega arith)

position_below : {X : Type 0} (p : X → Bool) (xs : List X) (start i : ℕ) → position_from p start xs ≡ Some i → (start ≤ i) × (i < start + length xs)
position_below p [] start i e = absurd cc
position_below p (x ∷ xs) start i e =
    let below = position_step (p x) start i (length xs) (position_from p (start + 1) xs) e (λ later. position_below p xs (start + 1) i later) in
    (below.0, omega arith)

-- what is known of an image in which a section of a name was found
pub record HasSection (image : Bytes) (index : ℕ) : Type 0 where
  pub header : Header
  pub sections : List Section
  pub section : Section
  pub header_is : header_of image ≡ Good header
  pub sections_are : sections_of image header ≡ Good sections
  pub there : slice_get sections index ≡ Some section

good_same : {A : Type 0} {x y : A} → Good x ≡ Good y → x ≡ y
good_same e = cc

within : (texts : Bytes) (sections : List Section) (names : List (List ℕ)) (name : Bytes) (index : ℕ) → names_of texts sections ≡ Good names → position_from (λ n. bytes_eq n name) 1 names ≡ Some index → index < length sections
unfolding names_of
within texts sections names name index all at =
    let below = position_below (λ n. bytes_eq n name) names 1 index at in
    let long = length_all (λ s. name_at texts s.name_offset) (drop 1 sections) names all in
    omega (arith, length-drop 1 sections)

section_there : (sections : List Section) (index : ℕ) → index < length sections → (s : Section) × (slice_get sections index ≡ Some s)
section_there [] index lt = absurd (omega arith)
section_there (s ∷ sections) index lt = (get_or (s ∷ sections) index s, slice_get-get_or (s ∷ sections) index s lt)

pub section_found : (image name : Bytes) (index : ℕ) → image_section image name ≡ Good (Some index) → HasSection image index
unfolding image_section elf_of section_named
section_found image name index e =
    let elf = bind_good (elf_of image) (λ elf. Good (section_named elf name)) (Some index) e in
    let header = bind_good (header_of image) _ elf.0 elf.1 in
    let sections = bind_good (sections_of image header.0) _ elf.0 header.2 in
    let texts = bind_good (name_table image header.0 sections.0) _ elf.0 sections.2 in
    let names = bind_good (names_of texts.0 sections.0) _ elf.0 texts.2 in
    let is : record { image = image; header = header.0; sections = sections.0; names = names.0 } ≡ elf.0 = good_same names.2 in
    let named : names.0 ≡ elf.0.names = ap (λ (e : Elf). e.names) is in
    let at : position_from (λ n. bytes_eq n name) 1 names.0 ≡ Some index = rw named (good_same elf.2) in
    let there = section_there sections.0 index (within texts.0 sections.0 names.0 name index names.1 at) in
    record { header = header.0; sections = sections.0; section = there.0; header_is = header.1; sections_are = sections.1; there = there.1 }

marks_ordered : (K : ErrorKind → Type 0) → K InvalidData → K Unsupported → (image : Bytes) (index : ℕ) → HasSection image index → Marks K (ordered_data image index)
unfolding ordered_data image_order image_section_data
marks_ordered K invalid form image index is = rw (is.header_is, is.sections_are, is.there) (marks_bind K _ _ (marks_data K invalid form is.header.format image is.section) (λ bytes. marks_good K _))

-- ---- what a link section says

marks_linked : (K : ErrorKind → Type 0) → K InvalidData → K Unsupported → (image name : Bytes) → Marks K (linked_data image name)
unfolding linked_data
marks_linked K invalid form image name = by_section (image_section image name) refl
  where
    by_section : (p : Part (Option ℕ)) → image_section image name ≡ p → Marks K (if_found (ordered_data image) (found p))
    by_section (Good None) e = marks_good K None
    by_section (Good (Some index)) e = marks_bind K _ _ (marks_ordered K invalid form image index (section_found image name index e)) (λ x. marks_good K _)
    by_section (Broken k) e = marks_good K None

abbrev OnError : {A : Type 0} → (ErrorKind → Type 0) → Checked A → Type 0
OnError K (Ok x) = ⊤
OnError K (Err e) = K e.kind

record Errs {A : Type 0} (K : ErrorKind → Type 0) (checked : Checked A) : Type 0 where
  kind : OnError K checked

errs_ok : {A : Type 0} (K : ErrorKind → Type 0) (x : A) → Errs K (let c : Checked A = Ok x in c)
errs_ok K x = record { kind = tt }

errs_or : {A : Type 0} (K : ErrorKind → Type 0) → K InvalidData → (o : Option A) (text : Bytes) → Errs K (or_text o text)
errs_or K invalid None text = record { kind = invalid }
errs_or K invalid (Some x) text = record { kind = tt }

errs_must : (K : ErrorKind → Type 0) → K InvalidData → (b : Bool) (text : Bytes) → Errs K (must b text)
errs_must K invalid true text = record { kind = tt }
errs_must K invalid false text = record { kind = invalid }

errs_bind : {A B : Type 0} (K : ErrorKind → Type 0) (c : Checked A) (f : A → Checked B) → Errs K c → ((x : A) → Errs K (f x)) → Errs K (checks.◌>>=◌ c f)
errs_bind K (Ok x) f first others = others x
errs_bind K (Err e) f first others = record { kind = first.kind }

errs_target : (K : ErrorKind → Type 0) → K InvalidData → (bytes : List ℕ) (at : ℕ) (text : Bytes) → Errs K (target bytes at text)
unfolding target
errs_target K invalid bytes at text = errs_bind K _ _ (errs_or K invalid (zero_ended bytes at) text) (λ text. errs_bind K _ _ (errs_must K invalid (is_utf8 text.0) _) (λ utf8. errs_ok K text))

errs_link : (K : ErrorKind → Type 0) → K InvalidData → (order : ByteOrder) (bytes : List ℕ) → Errs K (debug_link_checks order bytes)
unfolding debug_link_checks
errs_link K invalid order bytes =
    errs_bind K _ _ (errs_target K invalid bytes 0 _) (λ file.
    errs_bind K _ _ (errs_must K invalid (not (is_empty file.0)) _) (λ named.
    errs_bind K _ _ (errs_or K invalid (aligned 4 bytes file.1) _) (λ padded.
    errs_bind K _ _ (errs_or K invalid (number order 4 bytes padded.1) _) (λ checksum. errs_ok K _))))

errs_altlink : (K : ErrorKind → Type 0) → K InvalidData → (bytes : List ℕ) → Errs K (debug_altlink_checks bytes)
unfolding debug_altlink_checks
errs_altlink K invalid bytes =
    errs_bind K _ _ (errs_target K invalid bytes 0 _) (λ path.
    errs_bind K _ _ (errs_must K invalid (not (is_empty path.0)) _) (λ named.
    errs_bind K _ _ (errs_must K invalid (not (is_empty (drop path.1 bytes))) _) (λ identified. errs_ok K _)))

errs_flag : (K : ErrorKind → Type 0) → K InvalidData → (flag : ℕ) → Errs K (flag_of flag)
errs_flag K invalid flag = by_test (flag == 0) (flag == 1)
  where
    by_test : (zero_flag one_flag : Bool) → Errs K (let c : Checked Bool = (if zero_flag then Ok false else (if one_flag then Ok true else Err (fault_of InvalidData (codes "invalid is_supplementary field value")))) in c)
    by_test true one_flag = record { kind = tt }
    by_test false true = record { kind = tt }
    by_test false false = record { kind = invalid }

errs_path : (K : ErrorKind → Type 0) → K InvalidData → (flag : Bool) (path : List ℕ) → Errs K (sup_path flag path)
errs_path K invalid false path = errs_bind K _ _ (errs_must K invalid (not (is_empty path)) _) (λ named. errs_ok K _)
errs_path K invalid true path = errs_bind K _ _ (errs_must K invalid (is_empty path) _) (λ unnamed. errs_ok K _)

errs_checksum : (K : ErrorKind → Type 0) → K InvalidData → (bytes : List ℕ) (at : ℕ) → Errs K (sup_checksum bytes at)
unfolding sup_checksum
errs_checksum K invalid bytes at =
    errs_bind K _ _ (errs_or K invalid (uleb bytes at) _) (λ size. errs_bind K _ _ (errs_or K invalid (piece size.0 bytes size.1) _) (λ checksum. errs_ok K _))

errs_rest : (K : ErrorKind → Type 0) → K InvalidData → (bytes : List ℕ) (at version : ℕ) (flag : Bool) → Errs K (sup_rest bytes at version flag)
unfolding sup_rest
errs_rest K invalid bytes at version flag =
    errs_bind K _ _ (errs_target K invalid bytes at _) (λ text.
    errs_bind K _ _ (errs_path K invalid flag text.0) (λ path.
    errs_bind K _ _ (errs_checksum K invalid bytes text.1) (λ checksum. errs_ok K _)))

errs_sup : (K : ErrorKind → Type 0) → K InvalidData → (order : ByteOrder) (bytes : List ℕ) → Errs K (debug_sup_checks order bytes)
unfolding debug_sup_checks
errs_sup K invalid order bytes =
    errs_bind K _ _ (errs_or K invalid (number order 2 bytes 0) _) (λ version.
    errs_bind K _ _ (errs_or K invalid (byte bytes version.1) _) (λ flag.
    errs_bind K _ _ (errs_flag K invalid flag.0) (λ is_supplementary. errs_rest K invalid bytes flag.1 version.0 is_supplementary)))

marks_checked : {A : Type 0} (K : ErrorKind → Type 0) (checked : Checked A) → Errs K checked → Marks K (as_part checked)
marks_checked K (Ok x) errs = marks_good K x
marks_checked K (Err e) errs = marks_broken K e.kind errs.kind

marks_link : {A : Type 0} (K : ErrorKind → Type 0) → K InvalidData → K Unsupported → (image name : Bytes) (says : ByteOrder → List ℕ → Part A) → ((order : ByteOrder) (bytes : List ℕ) → Marks K (says order bytes)) → Marks K (link_in image name says)
marks_link {A = A} K invalid form image name says each = marks_bind K _ _ (marks_linked K invalid form image name) saying
  where
    saying : (o : Option (ByteOrder × List ℕ)) → Marks K (said says o)
    saying None = marks_good K None
    saying (Some section) = marks_bind K _ _ (each section.0 section.1) (λ x. marks_good K _)

pub marks_debug_link : (K : ErrorKind → Type 0) → K InvalidData → K Unsupported → (image : Bytes) → Marks K (debug_link_in image)
marks_debug_link K invalid form image = marks_link K invalid form image _ debug_link_of (λ order bytes. marks_checked K _ (errs_link K invalid order bytes))

pub marks_altlink : (K : ErrorKind → Type 0) → K InvalidData → K Unsupported → (image : Bytes) → Marks K (debug_altlink_in image)
marks_altlink K invalid form image = marks_link K invalid form image _ (λ order. debug_altlink_of) (λ order bytes. marks_checked K _ (errs_altlink K invalid bytes))

pub marks_sup : (K : ErrorKind → Type 0) → K InvalidData → K Unsupported → (image : Bytes) → Marks K (debug_sup_in image)
marks_sup K invalid form image = marks_link K invalid form image _ debug_sup_of (λ order bytes. marks_checked K _ (errs_sup K invalid order bytes))

-- ---- a link section that breaks is no file that is not there

abbrev pub IsThere : ErrorKind → Type 0
IsThere k = k ≢ NotFound

never_missing : {A : Type 0} (p : Part A) (k : ErrorKind) → Marks IsThere p → p ≡ Broken k → IsThere k
never_missing {A = A} p k marks broken = let P : Part A → Type 0 = OnMark IsThere in subst P broken marks.kind

pub link_never_missing : (image : Bytes) (k : ErrorKind) → debug_link_in image ≡ Broken k → IsThere k
link_never_missing image k broken = never_missing _ k (marks_debug_link IsThere (λ same. cc) (λ same. cc) image) broken

pub altlink_never_missing : (image : Bytes) (k : ErrorKind) → debug_altlink_in image ≡ Broken k → IsThere k
altlink_never_missing image k broken = never_missing _ k (marks_altlink IsThere (λ same. cc) (λ same. cc) image) broken

pub sup_never_missing : (image : Bytes) (k : ErrorKind) → debug_sup_in image ≡ Broken k → IsThere k
sup_never_missing image k broken = never_missing _ k (marks_sup IsThere (λ same. cc) (λ same. cc) image) broken
