-- What is broken in the symbols and functions of names has a kind of the format.
use Rattle.std.proofs.Common.{ℕ, zero, suc, ◌+◌, Bool, true, List, [], ◌∷◌, map, Option, Some, None}
use Rattle.std.specs.Prelude.{⊤, slice_get}
use Rattle.blz_elf.specs.Infos as symbols
use Rattle.blz_elf.specs.Infos.{Info, image_addresses, info_of, symbol_place}
use Rattle.blz_elf.specs.Listings.{Listing, listing_if, listing_of, then_also, then_list}
use Rattle.blz_error.specs.Texts.{Bytes}
use Rattle.blz_error.specs.declared.kind.ErrorKind.{ErrorKind}
use Rattle.blz_functions.specs.FunctionList.{Lists}
use Rattle.blz_functions.specs.declared.functions.Function.{Function}
use Rattle.blz_image.specs.Headers.{Header}
use Rattle.blz_image.specs.Images.{Elf}
use Rattle.blz_image.specs.Names.{text_of}
use Rattle.blz_image.specs.Sections.{first_section, if_there, raw_data, records_of, run_in}
use Rattle.blz_image.specs.Segments.{image_file_place, image_segments, segment_count, segments_of}
use Rattle.blz_image.specs.SymbolTables.{SymbolTable, dynsym_of, symtab_of, table_named, table_of}
use Rattle.blz_image.specs.declared.section.Section.{Section}
use Rattle.blz_image.specs.declared.symbols.Symbol.{Symbol}
use Rattle.blz_image.specs.declared.symbols.TableKind.{TableKind}
use Rattle.blz_image.specs.declared.symbols.TableKind.TheVariants.{Symtab, Dynsym}
use Rattle.blz_info.specs.Marks.{or_invalid}
use Rattle.blz_info.specs.declared.text.StrPlace.{StrPlace}
use Rattle.blz_info.specs.declared.text.Texts.{Texts}
use Rattle.blz_model.specs.Part.{Part, Good, Broken}
use Rattle.blz_model.specs.Texts.{name_bytes}
use Rattle.blz_resolver.specs.AddressAnswers.{function_numbered}
use Rattle.blz_resolver.specs.Books.{Book, frame_of}
use Rattle.blz_resolver.specs.FormatKinds.{IsFormatKind}
use Rattle.blz_resolver.specs.FunctionNames.{addresses_in, addresses_of, book_listing, function_info, info_named, infos_or_symbols, lists_listing, listing_in, named_only, numbered_info, place_if, unit_listing, units_listing}
use Rattle.blz_resolver.specs.Images.{ImageSet}
use Rattle.blz_resolver.proofs.DebugMarks.{marks_frame}
use Rattle.blz_resolver.proofs.FormatMarks.{Marks, marks_all, marks_bind, marks_broken, marks_check, marks_elf, marks_good, marks_header, marks_if, marks_or}
use Rattle.blz_symbols.specs.NameRule.{Named, asked_names, called_list, listed_names, read_name, symbol_names}
use Rattle.blz_units.specs.UnitAnswers.{unit_functions}
use Rattle.blz_units.specs.UnitSites.{call_name}
use Rattle.blz_listings.specs.FindTexts.{asking, find_text, infos_text, listed_text, names_text, unless_mark}

ruleset parts = (marks_good, marks_check, marks_or, marks_bind, marks_if, marks_all, marks_broken)

-- ---- the tables of symbols

marks_raw : (bytes : List ℕ) (s : Section) → Marks (raw_data bytes s)
unfolding raw_data
marks_raw bytes s = search parts depth 20

marks_run : (size : ℕ) (bytes : List ℕ) (s : Section) → Marks (run_in size bytes s)
unfolding run_in
marks_run size bytes s = search parts depth 20

marks_records : {A : Type 0} (record_at : List ℕ → ℕ → A) (size : ℕ) (bytes : List ℕ) (s : Section) → Marks (records_of record_at size bytes s)
unfolding records_of
marks_records record_at size bytes s = search (parts, marks_run) depth 20

marks_if_there : {A : Type 0} (read : Section → Part (List A)) (o : Option Section) → ((s : Section) → Marks (read s)) → Marks (if_there read o)
marks_if_there read None each_one = marks_good []
marks_if_there read (Some s) each_one = each_one s

marks_table_named : (elf : Elf) (name strings_name : List ℕ) → Marks (table_named elf name strings_name)
unfolding table_named
marks_table_named elf name strings_name = search (parts, marks_if_there, marks_records, marks_raw) depth 20

marks_table : (kind : TableKind) (elf : Elf) → Marks (table_of kind elf)
unfolding symtab_of dynsym_of
marks_table Symtab elf = search (parts, marks_table_named) depth 20
marks_table Dynsym elf = marks_table_named elf _ _

-- ---- the symbols of a name

marks_read_name : (strings : List ℕ) (s : Symbol) → Marks (read_name strings s)
unfolding read_name name_bytes
marks_read_name strings s = search parts depth 20

marks_asked_names : (symtab : Option SymbolTable) (table : SymbolTable) → Marks (asked_names symtab table)
unfolding asked_names
marks_asked_names symtab table = marks_all _ _ (marks_read_name table.strings)

marks_symbol_names : (kind : TableKind) (elf : Elf) → Marks (symbol_names kind elf)
unfolding symbol_names
marks_symbol_names Symtab elf = marks_bind _ _ (marks_table Symtab elf) (λ symtab. marks_asked_names None symtab)
marks_symbol_names Dynsym elf =
    marks_bind _ _ (marks_table Symtab elf) (λ symtab. marks_bind _ _ (marks_table Dynsym elf) (λ dynsym. marks_asked_names (Some symtab) dynsym))

marks_listed : (kind : TableKind) (elf : Elf) (passes : Named → Bool) → Marks (listed_names kind elf passes)
unfolding listed_names
marks_listed kind elf passes = marks_bind _ _ (marks_symbol_names kind elf) (λ names. marks_good _)

marks_called : (elf : Elf) (name : List ℕ) → Marks (called_list elf name)
unfolding called_list
marks_called elf name = marks_bind _ _ (marks_listed Symtab elf _) (λ own. marks_if _ _ _ (marks_listed Dynsym elf _) (marks_good own))

marks_text : (name : List ℕ) → Marks (text_of name)
unfolding text_of
marks_text name = search parts depth 20

marks_symbol_place : (elf : Elf) (symbol : Symbol) → Marks (symbol_place elf symbol)
unfolding symbol_place
marks_symbol_place elf symbol = search parts depth 20

marks_place_if : (asked : Bool) (elf : Elf) (symbol : Symbol) → Marks (symbols.place_if asked elf symbol)
unfolding symbols.place_if
marks_place_if asked elf symbol = marks_if _ _ _ (marks_symbol_place elf symbol) (marks_good None)

marks_info : (elf : Elf) (module_name : Option (List ℕ)) (asked : Bool) (n : Named) → Marks (info_of elf module_name asked n)
unfolding info_of
marks_info elf module_name asked n = marks_bind _ _ (marks_text n.name) (λ name. marks_bind _ _ (marks_place_if asked elf n.symbol) (λ place. marks_good _))

marks_image : (image : List ℕ) (module_name : Option (List ℕ)) (name : List ℕ) (asked : Bool) → Marks (image_addresses image module_name name asked)
unfolding image_addresses
marks_image image module_name name asked =
    marks_bind _ _ (marks_elf image) (λ elf. marks_bind _ _ (marks_called elf name) (λ called. marks_all _ called (marks_info elf module_name asked)))

-- ---- a function as it is listed

marks_invalid : {A : Type 0} (o : Option A) → Marks (or_invalid o)
marks_invalid o = marks_or o _ tt

marks_first : (bytes : List ℕ) (h : Header) → Marks (first_section bytes h)
unfolding first_section
marks_first bytes h = search parts depth 20

marks_segment_count : (bytes : List ℕ) (h : Header) → Marks (segment_count bytes h)
unfolding segment_count
marks_segment_count bytes h = search (parts, marks_first) depth 20

marks_segments : (bytes : List ℕ) (h : Header) → Marks (segments_of bytes h)
unfolding segments_of
marks_segments bytes h = search (parts, marks_segment_count) depth 20

marks_file_place : (image : List ℕ) (addr size : ℕ) → Marks (image_file_place image addr size)
unfolding image_file_place image_segments
marks_file_place image addr size = marks_bind _ _ (marks_bind _ _ (marks_header image) (marks_segments image)) (λ segments. marks_good _)

marks_function_place : (asked : Bool) (images : ImageSet) (addr size : ℕ) → Marks (place_if asked images addr size)
unfolding place_if
marks_function_place asked images addr size = marks_if _ _ _ (marks_file_place images.main.image addr size) (marks_good None)

marks_name : (t : Texts) (o : Option StrPlace) → Marks (call_name t o)
marks_name t None = marks_good []
marks_name t (Some place) = marks_bind _ _ (marks_check _ _ tt) (λ _. marks_good _)

marks_function : (t : Texts) (images : ImageSet) (asked : Bool) (function : Function) → Marks (function_info t images asked function)
unfolding function_info info_named
marks_function t images asked function =
    marks_bind _ _ (marks_name t function.name) (λ name. marks_bind _ _ (marks_function_place asked images _ _) (λ place. marks_good _))

marks_numbered : (b : Book) (at : ℕ × ℕ) → Marks (function_numbered b at)
unfolding function_numbered
marks_numbered b at = marks_bind {A = Lists} _ _ (marks_invalid (unit_functions b.files b.table at.0)) (λ (lists : Lists). marks_invalid (slice_get lists.functions at.1))

marks_numbered_info : (t : Texts) (b : Book) (asked : Bool) (at : ℕ × ℕ) → Marks (numbered_info t b asked at)
unfolding numbered_info
marks_numbered_info t b asked at = marks_bind _ _ (marks_numbered b at) (marks_function t b.images asked)

-- ---- the functions of a name

marks_found : (t : Texts) (b : Book) (name : List ℕ) (asked : Bool) (found : List (ℕ × ℕ)) → Marks (infos_or_symbols t b name asked found)
unfolding infos_or_symbols
marks_found t b name asked [] = marks_image _ _ name asked
marks_found t b name asked (at ∷ rest) = marks_all _ (at ∷ rest) (marks_numbered_info t b asked)

marks_addresses_in : (t : Texts) (b : Book) (name : List ℕ) (asked : Bool) → Marks (addresses_in t b name asked)
unfolding addresses_in
marks_addresses_in t b name asked = marks_bind _ _ (marks_invalid _) (marks_found t b name asked)

marks_addresses : (images : ImageSet) (name : List ℕ) (file_offset : Bool) → Marks (addresses_of images true name (asking file_offset))
unfolding addresses_of
marks_addresses images name file_offset = marks_bind _ _ (marks_frame images) (λ book. marks_addresses_in _ book name file_offset)

marks_names : (file_offset : Bool) (images : ImageSet) (names : List Bytes) → Marks (names_text (asking file_offset) images names)
unfolding names_text
marks_names file_offset images [] = marks_good []
marks_names file_offset images (name ∷ names) =
    marks_bind _ _ (marks_addresses images name file_offset) (λ infos. marks_bind _ _ (marks_names file_offset images names) (λ rest. marks_good _))

-- ---- a listing

abbrev OnMarkIf : Option ErrorKind → Type 0
OnMarkIf None = ⊤
OnMarkIf (Some k) = IsFormatKind k

-- the mark of a listing, if it has one, has a kind of the format
record IsMarked (l : Listing) : Type 0 where
  pub kind : OnMarkIf l.mark

marked_list : {X : Type 0} (f : X → Part Info) (xs : List X) → ((x : X) → Marks (f x)) → IsMarked (listing_of (map f xs))
marked_list f [] each_one = record { kind = tt }
marked_list f (x ∷ xs) each_one = by (f x) (each_one x) (marked_list f xs each_one)
  where
    by : (p : Part Info) → Marks p → IsMarked (listing_of (map f xs)) → IsMarked (listing_of (p ∷ map f xs))
    by (Good info) marks rest = record { kind = rest.kind }
    by (Broken k) marks rest = record { kind = marks.kind }

marked_if : {A : Type 0} (f : A → Listing) (p : Part A) → Marks p → ((x : A) → IsMarked (f x)) → IsMarked (listing_if f p)
marked_if f (Good x) marks others = others x
marked_if f (Broken k) marks others = record { kind = marks.kind }

marked_then : (a b : Listing) → IsMarked a → IsMarked b → IsMarked (then_list a b)
marked_then a b first second = by a.mark first.kind
  where
    by : (mark : Option ErrorKind) → OnMarkIf mark → IsMarked (then_also a.shown mark b)
    by None is = record { kind = second.kind }
    by (Some k) is = record { kind = is }

marked_unit : (t : Texts) (b : Book) (asked : Bool) (k : ℕ) → IsMarked (unit_listing t b asked k)
marked_unit t b asked k = marked_if {A = Lists} (lists_listing t b.images asked) (or_invalid (unit_functions b.files b.table k)) (marks_invalid (unit_functions b.files b.table k)) (λ (lists : Lists). marked_list _ (named_only lists.functions) (marks_function t b.images asked))

marked_units : (t : Texts) (b : Book) (asked : Bool) (k n : ℕ) → IsMarked (units_listing t b asked k n)
unfolding units_listing
marked_units t b asked k zero = record { kind = tt }
marked_units t b asked k (suc n) = marked_then _ _ (marked_unit t b asked k) (marked_units t b asked (k + 1) n)

marked_all : (images : ImageSet) (file_offset : Bool) → IsMarked (listing_in images true (asking file_offset))
unfolding listing_in
marked_all images file_offset = marked_if (book_listing file_offset) (frame_of images) (marks_frame images) (λ book. marked_units _ book file_offset 0 _)

marks_listed_text : (asked : Bool) (l : Listing) → IsMarked l → Marks (listed_text asked l)
marks_listed_text asked l marked = by l.mark marked.kind
  where
    by : (mark : Option ErrorKind) → OnMarkIf mark → Marks (unless_mark mark (infos_text asked l.shown))
    by None is = marks_good _
    by (Some k) is = marks_broken k is

pub marks_find : (file_offset : Bool) (names : List Bytes) (images : ImageSet) → Marks (find_text file_offset names images)
unfolding find_text
marks_find file_offset [] images = marks_listed_text file_offset _ (marked_all images file_offset)
marks_find file_offset (name ∷ names) images = marks_names file_offset images (name ∷ names)
