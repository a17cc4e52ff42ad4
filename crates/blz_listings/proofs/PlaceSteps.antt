-- The places that are told of functions lead back to their addresses.
use Rattle.std.proofs.Common.{◌≡◌, ◌<◌, ℕ, zero, suc, ◌+◌, true, List, [], ◌∷◌, ◌++◌, length, map, Option, Some, None, refl, sym, ap, subst, ◌∙◌, arith}
use Rattle.std.specs.List.{All}
use Rattle.std.specs.Option.{unwrap_or}
use Rattle.std.proofs.lemmas.List.{append-nil}
use Rattle.std.proofs.lemmas.List.Elements.{All-nil, All-cons, All-append}
use Rattle.blz_elf.specs.Infos.{Info}
use Rattle.blz_elf.specs.Listings.{Listing, listing_if, listing_of, then_also, then_list}
use Rattle.blz_elf.proofs.RoundTrip.{comes_back}
use Rattle.blz_error.specs.Texts.{Bytes}
use Rattle.blz_error.specs.declared.kind.ErrorKind.{ErrorKind}
use Rattle.blz_functions.specs.FunctionList.{Lists}
use Rattle.blz_functions.specs.declared.functions.Function.{Function}
use Rattle.blz_image.specs.Segments.{image_file_place}
use Rattle.blz_info.specs.Marks.{or_invalid}
use Rattle.blz_info.specs.declared.text.Texts.{Texts}
use Rattle.blz_model.specs.Part.{Part, Good, Broken, ◌>>=◌, all_good}
use Rattle.blz_records.specs.declared.sym_type.SymType.TheVariants as kinds
use Rattle.blz_resolver.specs.AddressAnswers.{begin_of, function_numbered, size_of}
use Rattle.blz_resolver.specs.Books.{Book, DebugImages, debug_images, files_in, frame_of}
use Rattle.blz_resolver.specs.FileTexts.{texts_of}
use Rattle.blz_resolver.specs.FunctionNames.{addresses_in, addresses_of, book_listing, function_info, info_named, infos_or_symbols, lists_listing, listing_in, named_only, numbered_info, place_if, unit_listing, units_listing}
use Rattle.blz_resolver.specs.Images.{ImageSet}
use Rattle.blz_units.specs.UnitAnswers.{unit_functions}
use Rattle.blz_units.specs.UnitSites.{call_name}
use Rattle.blz_units.specs.UnitTables.{UnitTable, units_of}
use Rattle.blz_listings.specs.FindLaws.{HasFunction, LeadBack, LeadsBack}
use Rattle.blz_listings.specs.FindTexts.{asking, find_text, infos_text, listed_text, name_text, names_text, unless_mark}
use Rattle.blz_listings.proofs.InfoSteps.{told}
use Rattle.blz_listings.proofs.NameSteps.{behind}

-- ---- one function

abbrev info_at : ImageSet → Function → Bytes → Option ℕ → Info
info_at images function name place = record {
  name = name;
  addr = begin_of function.bounds;
  size = Some (unwrap_or (size_of function.bounds) 0);
  sym_type = kinds.Function;
  file_offset = place;
  module_name = images.main.module_name;
}

named_back : (images : ImageSet) (function : Function) (name : Bytes) (info : Info) → info_named images true function name ≡ Good info → LeadsBack images.main.image info
unfolding info_named place_if
named_back images function name info e = by (image_file_place images.main.image (begin_of function.bounds) (unwrap_or (size_of function.bounds) 0)) refl e
  where
    by : (p : Part (Option ℕ)) → image_file_place images.main.image (begin_of function.bounds) (unwrap_or (size_of function.bounds) 0) ≡ p
        → (p >>= λ place. Good (info_at images function name place)) ≡ Good info → LeadsBack images.main.image info
    by (Good place) is e =
        let same : info_at images function name place ≡ info = cc in
        subst (LeadsBack images.main.image) same (λ small. comes_back images.main.image (begin_of function.bounds) (unwrap_or (size_of function.bounds) 0) place small is)
    by (Broken k) is e = absurd cc

function_back : (t : Texts) (images : ImageSet) (function : Function) (info : Info) → function_info t images true function ≡ Good info → LeadsBack images.main.image info
unfolding function_info
function_back t images function info e = by (call_name t function.name) e
  where
    by : (p : Part Bytes) → (p >>= info_named images true function) ≡ Good info → LeadsBack images.main.image info
    by (Good name) e = named_back images function name info e
    by (Broken k) e = absurd cc

numbered_back : (t : Texts) (b : Book) (at : ℕ × ℕ) (info : Info) → numbered_info t b true at ≡ Good info → LeadsBack b.images.main.image info
unfolding numbered_info
numbered_back t b at info e = by (function_numbered b at) e
  where
    by : (p : Part Function) → (p >>= function_info t b.images true) ≡ Good info → LeadsBack b.images.main.image info
    by (Good function) e = function_back t b.images function info e
    by (Broken k) e = absurd cc

-- ---- a listing

module _ (P : Info → Type 0) where
  list_shown : {X : Type 0} (f : X → Part Info) (xs : List X) → ((x : X) (info : Info) → f x ≡ Good info → P info) → All P (listing_of (map f xs)).shown
  list_shown f [] each_one = All-nil P
  list_shown f (x ∷ xs) each_one = by (f x) refl (list_shown f xs each_one)
    where
      by : (p : Part Info) → f x ≡ p → All P (listing_of (map f xs)).shown → All P (listing_of (p ∷ map f xs)).shown
      by (Good info) is rest = All-cons P info (listing_of (map f xs)).shown (each_one x info is) rest
      by (Broken k) is rest = All-nil P

  shown_if : {A : Type 0} (f : A → Listing) (p : Part A) → ((x : A) → p ≡ Good x → All P (f x).shown) → All P (listing_if f p).shown
  shown_if f (Good x) others = others x refl
  shown_if f (Broken k) others = All-nil P

  shown_then : (a b : Listing) → All P a.shown → All P b.shown → All P (then_list a b).shown
  shown_then a b first second = by a.mark
    where
      by : (mark : Option ErrorKind) → All P (then_also a.shown mark b).shown
      by None = All-append P a.shown b.shown first second
      by (Some k) = first

  all_read : {X : Type 0} (f : X → Part Info) (xs : List X) (infos : List Info) → ((x : X) (info : Info) → f x ≡ Good info → P info) → all_good (map f xs) ≡ Good infos → All P infos
  all_read f [] infos each_one e = let same : [] ≡ infos = cc in subst (All P) same (All-nil P)
  all_read f (x ∷ xs) infos each_one e = by (λ rest are. all_read f xs rest each_one are) (f x) refl (all_good (map f xs)) refl e
    where
      by : ((rest : List Info) → all_good (map f xs) ≡ Good rest → All P rest) → (p : Part Info) → f x ≡ p → (q : Part (List Info)) → all_good (map f xs) ≡ q → (p >>= λ y. q >>= λ ys. Good (y ∷ ys)) ≡ Good infos → All P infos
      by others (Good info) is (Good rest) are e =
          let same : info ∷ rest ≡ infos = cc in
          subst (All P) same (All-cons P info rest (each_one x info is) (others rest are))
      by others (Good info) is (Broken k) are e = absurd cc
      by others (Broken k) is q are e = absurd cc

some_read : {X : Type 0} (f : X → Part Info) (x : X) (xs : List X) (infos : List Info) → all_good (map f (x ∷ xs)) ≡ Good infos → 0 < length infos
some_read f x xs infos e = by (f x) (all_good (map f xs)) e
  where
    by : (p : Part Info) (q : Part (List Info)) → (p >>= λ y. q >>= λ ys. Good (y ∷ ys)) ≡ Good infos → 0 < length infos
    by (Good info) (Good rest) e = let same : info ∷ rest ≡ infos = cc in subst (λ (l : List Info). 0 < length l) same (omega arith)
    by (Good info) (Broken k) e = absurd cc
    by (Broken k) q e = absurd cc

-- ---- all functions

abbrev back_in : Book → Info → Type 0
back_in b info = LeadsBack b.images.main.image info

unit_back : (t : Texts) (b : Book) (k : ℕ) → All (back_in b) (unit_listing t b true k).shown
unit_back t b k = shown_if (back_in b) {A = Lists} (lists_listing t b.images true) (or_invalid (unit_functions b.files b.table k)) (λ (lists : Lists) is. list_shown (back_in b) (function_info t b.images true) (named_only lists.functions) (function_back t b.images))

units_back : (t : Texts) (b : Book) (k n : ℕ) → All (back_in b) (units_listing t b true k n).shown
unfolding units_listing
units_back t b k zero = All-nil (back_in b)
units_back t b k (suc n) = shown_then (back_in b) (unit_listing t b true k) (units_listing t b true (k + 1) n) (unit_back t b k) (units_back t b (k + 1) n)

-- the images of a book are those of its frame
frame_images : (images : ImageSet) (b : Book) → frame_of images ≡ Good b → b.images ≡ images
unfolding frame_of
frame_images images b e = by (debug_images images) e
  where
    with_table : (files : DebugImages) (p : Part UnitTable) → (p >>= λ table. Good (record { images = images; files = files_in files; table = table })) ≡ Good b → b.images ≡ images
    with_table files (Good table) e = cc
    with_table files (Broken k) e = absurd cc

    by : (p : Part DebugImages) → (p >>= λ debug. or_invalid (units_of (files_in debug)) >>= λ table. Good (record { images = images; files = files_in debug; table = table })) ≡ Good b → b.images ≡ images
    by (Good debug) e = with_table debug (or_invalid (units_of (files_in debug))) e
    by (Broken k) e = absurd cc

all_back : (images : ImageSet) → All (LeadsBack images.main.image) (listing_in images true (asking true)).shown
unfolding listing_in
all_back images = shown_if (LeadsBack images.main.image) (book_listing true) (frame_of images) (λ (book : Book) is.
    subst (λ (i : ImageSet). All (LeadsBack i.main.image) (book_listing true book).shown) (frame_images images book is) (units_back (texts_of book.files) book 0 (length book.table.kept)))

listed_back : (images : ImageSet) (text : Bytes) (l : Listing) → All (LeadsBack images.main.image) l.shown → listed_text true l ≡ Good text → LeadBack images text
listed_back images text l back e = by l.mark e
  where
    by : (mark : Option ErrorKind) → unless_mark mark (infos_text true l.shown) ≡ Good text → LeadBack images text
    by None e = let same : text ≡ infos_text true l.shown = cc in record { infos = l.shown; lines = same; back = back }
    by (Some k) e = absurd cc

pub all_lead_back : (images : ImageSet) (text : Bytes) → find_text true [] images ≡ Good text → LeadBack images text
unfolding find_text
all_lead_back images text e = listed_back images text (listing_in images true (asking true)) (all_back images) e

-- ---- the functions of a name

functions_only : (images : ImageSet) (b : Book) (name : Bytes) → frame_of images ≡ Good b → (has : HasFunction b name)
    → addresses_of images true name (asking true) ≡ all_good (map (numbered_info (texts_of b.files) b true) (has.first ∷ has.others))
unfolding addresses_of addresses_in infos_or_symbols
functions_only images b name frame has =
    ap (λ (p : Part Book). p >>= λ b. addresses_in (texts_of b.files) b name true) frame
    ∙ ap (λ (o : Option (List (ℕ × ℕ))). or_invalid o >>= infos_or_symbols (texts_of b.files) b name true) has.found

named_lead : (images : ImageSet) (name text : Bytes) (infos : List Info) → 0 < length infos → All (LeadsBack images.main.image) infos
    → name_text true name infos ++ [] ≡ text → LeadBack images text
named_lead images name text infos some back e =
    record { infos = infos; lines = sym e ∙ append-nil (name_text true name infos) ∙ sym (told true name infos some); back = back }

pub named_lead_back : (images : ImageSet) (b : Book) (name text : Bytes) → frame_of images ≡ Good b → HasFunction b name
    → find_text true (name ∷ []) images ≡ Good text → LeadBack images text
unfolding find_text names_text
named_lead_back images b name text frame has e = by (addresses_of images true name (asking true)) refl e
  where
    by : (p : Part (List Info)) → addresses_of images true name (asking true) ≡ p → (p >>= λ infos. behind (name_text true name infos) (Good [])) ≡ Good text → LeadBack images text
    by (Good infos) is e =
        let read = sym (functions_only images b name frame has) ∙ is in
        let back : All (back_in b) infos = all_read (back_in b) (numbered_info (texts_of b.files) b true) (has.first ∷ has.others) infos (numbered_back (texts_of b.files) b) read in
        let same : name_text true name infos ++ [] ≡ text = cc in
        named_lead images name text infos (some_read (numbered_info (texts_of b.files) b true) has.first has.others infos read)
        (subst (λ (i : ImageSet). All (LeadsBack i.main.image) infos) (frame_images images b frame) back) same
    by (Broken k) is e = absurd cc
