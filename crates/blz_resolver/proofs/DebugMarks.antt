-- What is broken in debug information has a kind of its format, and no other.
use Rattle.std.proofs.Common.{ℕ, Bool, true, false, List, [], ◌∷◌, Option, Some, None}
use Rattle.std.specs.List.{slice_get}
use Rattle.blz_error.specs.declared.kind.ErrorKind.TheVariants.{InvalidDwarf}
use Rattle.blz_model.specs.Answers.{Site, Answer, Known, Unknown}
use Rattle.blz_model.specs.Part.{Part}
use Rattle.blz_image.specs.Images as image
use Rattle.blz_elf.specs.declared.opts.FindSymOpts.{FindSymOpts}
use Rattle.blz_info.specs.Marks.{or_invalid}
use Rattle.blz_info.specs.declared.text.StrPlace.{StrPlace}
use Rattle.blz_info.specs.declared.text.Texts.{Texts}
use Rattle.blz_line.specs.Lookups.{row_site, row_in}
use Rattle.blz_line.specs.UnitLines.{LineTable}
use Rattle.blz_line.specs.declared.row.LineRow.{LineRow}
use Rattle.blz_split.specs.PackageParts.{package_of}
use Rattle.blz_units.specs.BuiltUnits.{Files}
use Rattle.blz_functions.specs.FunctionList.{Lists}
use Rattle.blz_units.specs.UnitAnswers.{unit_functions, unit_language, unit_lines, function_at}
use Rattle.blz_units.specs.UnitSites as sites
use Rattle.blz_units.specs.UnitTables.{UnitTable}
use Rattle.blz_functions.specs.declared.inlined_functions.InlinedFunction.{InlinedFunction}
use Rattle.blz_resolver.specs.AddressAnswers.{function_numbered, function_symbol, direct_site, places_of, function_answer, with_place, symbol_answer, answer_by, answer_in, answer_of}
use Rattle.blz_resolver.specs.Books.{Book, if_there, sup_image, debug_images, frame_of, framed}
use Rattle.blz_resolver.specs.DebugSections.{located, debug_parts, debug_image}
use Rattle.blz_bundle.specs.Images.{NamedImage, ImageSet}
use Rattle.blz_resolver.specs.Scan.{scan_of}
use Rattle.blz_resolver.specs.declared.debug.debug_section.DebugSection.{DebugSection}
use Rattle.blz_resolver.proofs.FormatMarks.{Marks, marks_good, marks_bind, marks_if, marks_or, marks_check, marks_all, marks_header, marks_elf, marks_image_data, marks_relocations, marks_image_symbol}

marks_invalid : {A : Type 0} (o : Option A) → Marks (or_invalid o)
marks_invalid o = marks_or o InvalidDwarf tt

-- ---- the files

marks_order : (bytes : List ℕ) → Marks (image.image_order bytes)
unfolding image.image_order
marks_order bytes = marks_bind _ _ (marks_header bytes) (λ h. marks_good _)

marks_number : (bytes name : List ℕ) → Marks (image.image_section bytes name)
unfolding image.image_section
marks_number bytes name = marks_bind _ _ (marks_elf bytes) (λ elf. marks_good _)

marks_located : (bytes : List ℕ) (section : DebugSection) → Marks (located bytes section)
unfolding located
marks_located bytes section = marks_bind _ _ (marks_image_data bytes _) (λ content. marks_bind _ _ (marks_number bytes _) (λ number. marks_good _))

marks_debug_parts : (bytes : List ℕ) → Marks (debug_parts bytes)
unfolding debug_parts
marks_debug_parts bytes =
    marks_bind _ _ (marks_order bytes) (λ order. marks_bind _ _ (marks_located bytes _) (λ abbreviations. marks_bind _ _ (marks_located bytes _) (λ addr.
    marks_bind _ _ (marks_located bytes _) (λ aranges. marks_bind _ _ (marks_located bytes _) (λ info. marks_bind _ _ (marks_located bytes _) (λ line.
    marks_bind _ _ (marks_located bytes _) (λ line_str. marks_bind _ _ (marks_located bytes _) (λ ranges. marks_bind _ _ (marks_located bytes _) (λ rnglists.
    marks_bind _ _ (marks_located bytes _) (λ strings. marks_bind _ _ (marks_located bytes _) (λ str_offsets. marks_good _)))))))))))

marks_debug_image : (bytes : List ℕ) → Marks (debug_image bytes)
unfolding debug_image
marks_debug_image bytes = marks_bind _ _ (marks_elf bytes) (λ elf. marks_bind _ _ (marks_relocations bytes) (λ relocations. marks_bind _ _ (marks_debug_parts bytes) (λ parts. marks_good _)))

marks_sup_image : (bytes : List ℕ) → Marks (sup_image bytes)
unfolding sup_image
marks_sup_image bytes = marks_bind _ _ (marks_debug_image bytes) (λ debug. marks_bind _ _ (marks_invalid _) (λ units. marks_good _))

marks_package : (bytes : List ℕ) → Marks (package_of bytes)
unfolding package_of
marks_package bytes =
    marks_bind _ _ (marks_order bytes) (λ order. marks_bind _ _ (marks_image_data bytes _) (λ abbreviations. marks_bind _ _ (marks_image_data bytes _) (λ index.
    marks_bind _ _ (marks_image_data bytes _) (λ info. marks_bind _ _ (marks_image_data bytes _) (λ rnglists. marks_bind _ _ (marks_image_data bytes _) (λ strings.
    marks_bind _ _ (marks_image_data bytes _) (λ str_offsets. marks_bind _ _ (marks_invalid _) (λ tables. marks_good _))))))))

marks_if_there : {A : Type 0} (read : List ℕ → Part A) (file : Option NamedImage) → ((bytes : List ℕ) → Marks (read bytes)) → Marks (if_there read file)
marks_if_there read None each_one = marks_good None
marks_if_there read (Some file) each_one = marks_bind _ _ (each_one file.image) (λ x. marks_good (Some x))

marks_debug_images : (images : ImageSet) → Marks (debug_images images)
unfolding debug_images
marks_debug_images images =
    marks_bind _ _ (marks_debug_image _) (λ main. marks_bind _ _ (marks_if_there sup_image images.supplementary marks_sup_image) (λ sup.
    marks_bind _ _ (marks_if_there package_of images.package_file marks_package) (λ parts. marks_good _)))

pub marks_frame : (images : ImageSet) → Marks (frame_of images)
unfolding frame_of
marks_frame images = marks_bind _ _ (marks_debug_images images) (λ debug. marks_bind _ _ (marks_invalid _) (λ table. marks_good _))

pub marks_framed : (images : ImageSet) → Marks (framed images)
marks_framed images = marks_bind _ _ (marks_frame images) (λ book. marks_good tt)

-- ---- the answers

marks_name : (t : Texts) (o : Option StrPlace) → Marks (sites.call_name t o)
marks_name t None = marks_good []
marks_name t (Some place) = marks_bind _ _ (marks_check _ InvalidDwarf tt) (λ utf8. marks_good _)

marks_row : (t : Texts) (table : LineTable) (o : Option LineRow) → Marks (row_site t table o)
unfolding row_site
marks_row t table None = marks_good None
marks_row t table (Some row) = marks_bind _ _ (marks_invalid _) (λ file. marks_good _)

marks_line : (t : Texts) (a : ℕ) (o : Option LineTable) → Marks (sites.line_of t a o)
marks_line t a None = marks_good None
marks_line t a (Some table) = marks_row t table (row_in table.sequences a)

marks_site_or : (o : Option Site) (rest : Part (Option Site)) → Marks rest → Marks (sites.site_or o rest)
marks_site_or None rest marks = marks
marks_site_or (Some site) rest marks = marks_good (Some site)

marks_line_in : (t : Texts) (f : Files) (table : UnitTable) (a k : ℕ) → Marks (sites.line_in t f table a k)
unfolding sites.line_in
marks_line_in t f table a k = marks_bind _ _ (marks_invalid (unit_lines f table k)) (marks_line t a)

marks_first_line : (t : Texts) (f : Files) (table : UnitTable) (a : ℕ) (units : List ℕ) → Marks (sites.first_line t f table a units)
unfolding sites.first_line
marks_first_line t f table a [] = marks_good None
marks_first_line t f table a (k ∷ units) = marks_bind _ _ (marks_line_in t f table a k) (λ site. marks_site_or site _ (marks_first_line t f table a units))

marks_location : (t : Texts) (f : Files) (table : UnitTable) (a : ℕ) → Marks (sites.location_at t f table a)
unfolding sites.location_at
marks_location t f table a = marks_first_line t f table a _

marks_call_site : (t : Texts) (lines : Option (Option LineTable)) (call : InlinedFunction) (o : Option ℕ) → Marks (sites.call_site t lines call o)
marks_call_site t lines call None = marks_good None
marks_call_site t lines call (Some file) = marks_bind _ _ (marks_invalid lines) (λ table. marks_good _)

marks_inlined : (t : Texts) (lines : Option (Option LineTable)) (call : InlinedFunction) → Marks (sites.inlined_by t lines call)
unfolding sites.inlined_by
marks_inlined t lines call = marks_bind _ _ (marks_name t call.name) (λ name. marks_bind _ _ (marks_call_site t lines call call.call_file) (λ site. marks_good _))

marks_inlined_at : (t : Texts) (f : Files) (table : UnitTable) (a k n : ℕ) → Marks (sites.inlined_at t f table a k n)
unfolding sites.inlined_at
marks_inlined_at t f table a k n = marks_bind _ _ (marks_invalid _) (λ calls. marks_all _ calls (marks_inlined t (unit_lines f table k)))

marks_numbered : (b : Book) (at : ℕ × ℕ) → Marks (function_numbered b at)
unfolding function_numbered
marks_numbered b at = marks_bind {A = Lists} _ _ (marks_invalid (unit_functions b.files b.table at.0)) (λ (lists : Lists). marks_invalid (slice_get lists.functions at.1))

marks_symbol : (t : Texts) (b : Book) (at : ℕ × ℕ) → Marks (function_symbol t b at)
unfolding function_symbol
marks_symbol t b at = marks_bind _ _ (marks_numbered b at) (λ function. marks_bind _ _ (marks_name t function.name) (λ name. marks_bind _ _ (marks_invalid (unit_language b.files b.table at.0)) (λ lang. marks_good _)))

marks_direct : (t : Texts) (b : Book) (a : ℕ) (opts : FindSymOpts) → Marks (direct_site t b a opts)
unfolding direct_site
marks_direct t b a opts = marks_if _ _ _ (marks_location t b.files b.table a) (marks_good None)

marks_places : (t : Texts) (b : Book) (a : ℕ) (opts : FindSymOpts) (at : ℕ × ℕ) (direct : Option Site) → Marks (places_of t b a opts at direct)
unfolding places_of
marks_places t b a opts at None = marks_good _
marks_places t b a opts at (Some direct) = marks_if _ _ _ (marks_bind _ _ (marks_inlined_at t b.files b.table a at.0 at.1) (λ calls. marks_good _)) (marks_good _)

marks_function : (t : Texts) (b : Book) (a : ℕ) (opts : FindSymOpts) (at : ℕ × ℕ) → Marks (function_answer t b a opts at)
unfolding function_answer
marks_function t b a opts at = marks_bind _ _ (marks_symbol t b at) (λ symbol. marks_bind _ _ (marks_direct t b a opts) (λ direct. marks_bind _ _ (marks_places t b a opts at direct) (λ places. marks_good _)))

marks_with_place : (t : Texts) (b : Book) (a : ℕ) (opts : FindSymOpts) (answer : Answer) → Marks (with_place t b a opts answer)
unfolding with_place
marks_with_place t b a opts (Unknown reason) = marks_good _
marks_with_place t b a opts (Known symbol) = marks_bind _ _ (marks_direct t b a opts) (λ direct. marks_good _)

marks_by : (t : Texts) (b : Book) (a : ℕ) (opts : FindSymOpts) (at : Option (ℕ × ℕ)) → Marks (answer_by t b a opts at)
unfolding answer_by symbol_answer
marks_by t b a opts None = marks_bind _ _ (marks_image_symbol _ _ a) (marks_with_place t b a opts)
marks_by t b a opts (Some at) = marks_function t b a opts at

marks_answer_in : (t : Texts) (b : Book) (a : ℕ) (opts : FindSymOpts) → Marks (answer_in t b a opts)
unfolding answer_in
marks_answer_in t b a opts = marks_bind _ _ (marks_invalid (function_at b.files b.table a)) (marks_by t b a opts)

pub marks_answer : (images : ImageSet) (has_debug : Bool) (a : ℕ) (opts : FindSymOpts) → Marks (answer_of images has_debug a opts)
marks_answer images false a opts = marks_image_symbol _ _ a
marks_answer images true a opts = marks_bind _ _ (marks_frame images) (λ book. marks_answer_in _ book a opts)

pub marks_scan : (images : ImageSet) (addrs : List ℕ) (opts : FindSymOpts) → Marks (scan_of images addrs opts)
unfolding scan_of
marks_scan images addrs opts = marks_bind _ _ (marks_frame images) (λ book. marks_all _ addrs (λ a. marks_answer images true a opts))
