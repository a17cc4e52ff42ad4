-- What a reader of a bundle's files gives is what the definitions over the bundle give.
use Rattle.std.proofs.Common.{◌≡◌, ◌<◌, ℕ, Bool, true, false, not, is_some, length, List, Option, Some, None, option_map, Bor, map, refl, sym, ap, ◌∙◌, subst, if◌then◌else◌}
use Rattle.blz_error.specs.declared.kind.ErrorKind.TheVariants.{Unsupported}
use Rattle.blz_model.specs.Part.{Part, Good, Broken, ◌>>=◌, all_good, check}
use Rattle.blz_elf.specs.Listings.{broken_by, listing_if}
use Rattle.blz_elf.specs.declared.find_addr_opts.FindAddrOpts.{FindAddrOpts}
use Rattle.blz_elf.specs.declared.opts.FindSymOpts.{FindSymOpts}
use Rattle.blz_info.specs.Contents.{Contents, section_view}
use Rattle.blz_info.specs.Marks.{or_invalid}
use Rattle.blz_info.specs.declared.section.Section.{Section}
use Rattle.blz_info.specs.declared.section.Sections.{Sections}
use Rattle.blz_info.specs.declared.text.Texts.{Texts}
use Rattle.blz_info.specs.FileSections.{FileSections, sections_view}
use Rattle.blz_split.specs.PackageParts.{PackageParts, package_view}
use Rattle.blz_split.specs.declared.package.Package.{Package}
use Rattle.blz_units.specs.BuiltUnits.{Files, files_view, bytes_of, AreSupTexts, ArePacked, IsReadable}
use Rattle.blz_units.specs.UnitAnswers.{unit_lines}
use Rattle.blz_units.specs.UnitTables.{units_of}
use Rattle.blz_index.specs.UnitsWarm.{units_table, UnitsFit}
use Rattle.blz_units.specs.declared.dwarf.Dwarf.{Dwarf}
use Rattle.blz_resolver.specs.AddressAnswers.{answer_in, answers_in, answer, answer_of}
use Rattle.blz_resolver.specs.Books.{Book, files_in, frame_of, framed}
use Rattle.blz_bundle.specs.BundleViews.{bundle_view}
use Rattle.blz_line.specs.FileNames.{file_text}
use Rattle.blz_line.specs.UnitLines.{LineTable, OrderedLines}
use Rattle.blz_resolver.specs.FunctionNames.{addresses_of, addresses_in, is_variable, listing_in, book_listing, functions_listing}
use Rattle.blz_resolver.specs.FileTexts.{bytes_if, texts_of}
use Rattle.blz_resolver.specs.FileViews.{images_view}
use Rattle.blz_bundle.specs.Images.{ImageSet}
use Rattle.blz_resolver.specs.InfoViews.{info_book, KeepsBook}
use Rattle.blz_resolver.specs.Reading.{book_of, Reads, Keeps}
use Rattle.blz_resolver.specs.Resolver.{HasBook, HasBookIf}
use Rattle.blz_resolver.specs.Scan.{answers_of}
use Rattle.blz_resolver.specs.UnitRowsRead.{Rows, rows_with, rows_in, rows_of, count_of, unit_count_of}
use Rattle.blz_resolver.specs.declared.answers.book_reader.BookReader.{BookReader}
use Rattle.blz_resolver.specs.declared.debug.debug_files.DebugFiles.{DebugFiles}
use Rattle.blz_resolver.specs.declared.debug.debug_info.DebugInfo.{DebugInfo}
use Rattle.blz_resolver.proofs.SameAnswers.{same_answer}
use Rattle.blz_resolver.proofs.SameNames.{same_addresses, same_units_listing}
use Rattle.blz_resolver.proofs.SameTexts.{SameTexts, same_bind, same_map, same_option_map, same_file}

-- the frame of the bundle is the book
pub frame_is : (images : ImageSet) (d : DebugInfo) → HasBook images d → frame_of images ≡ Good (info_book images d)
unfolding frame_of
frame_is images d has =
    let table : or_invalid (units_of (files_in (images_view d.files))) ≡ Good (units_table d.units) = ap or_invalid has.units.table in
    rw (has.files, table) refl

pub framed_is : (images : ImageSet) (d : DebugInfo) → HasBook images d → framed images ≡ Good tt
framed_is images d has = ap (λ (p : Part Book). p >>= λ book. Good tt) (frame_is images d has)

-- ---- texts

strings_are : (o : Option Section) → bytes_of o ≡ bytes_if (λ (c : Contents). c.bytes) (option_map section_view o)
strings_are None = refl
strings_are (Some s) = refl

packed_info : (o : Option Package) (t : Texts) → ArePacked o t → t.pack_info.now ≡ bytes_if (λ (p : PackageParts). p.info) (option_map package_view o)
packed_info None t are = are.0
packed_info (Some p) t are = are.0

packed_strings : (o : Option Package) (t : Texts) → ArePacked o t → t.pack_strings.now ≡ bytes_if (λ (p : PackageParts). p.strings) (option_map package_view o)
packed_strings None t are = are.1
packed_strings (Some p) t are = are.1

sup_info : (o : Option Sections) (t : Texts) → AreSupTexts o t → t.sup_info.now ≡ bytes_if (λ (s : FileSections). s.info.bytes) (option_map sections_view o)
sup_info None t are = are.0
sup_info (Some s) t are = are.0

sup_line_str : (o : Option Sections) (t : Texts) → AreSupTexts o t → t.sup_line_str.now ≡ bytes_if (λ (s : FileSections). s.line_str.bytes) (option_map sections_view o)
sup_line_str None t are = are.1
sup_line_str (Some s) t are = are.1

-- the texts that units are read with are those of the files
pub texts_are : (d : Dwarf) → IsReadable d → SameTexts d.texts (texts_of (files_view d))
texts_are d is = record {
  info = is.texts.info;
  line = is.texts.line;
  strings = is.texts.strings;
  line_str = is.texts.line_str;
  sup_strings = is.texts.sup_strings ∙ strings_are d.main.sup_strings;
  pack_info = packed_info d.«package» d.texts is.packed;
  pack_strings = packed_strings d.«package» d.texts is.packed;
  sup_info = sup_info d.sup d.texts is.sup_texts;
  sup_line_str = sup_line_str d.sup d.texts is.sup_texts;
}

-- ---- the book

-- A reader reads the debug information of a bundle.
pub record IsReaderOf (images : ImageSet) (d : DebugInfo) (r : BookReader) : Type 0 where
  pub bundle : bundle_view r.bundle ≡ images
  pub files : files_view r.dwarf ≡ files_in (images_view d.files)
  pub readable : IsReadable r.dwarf

pub reads : (images : ImageSet) (d : DebugInfo) (r : BookReader) → HasBook images d → IsReaderOf images d r → Reads r d.units
reads images d r has is = record {
  readable = is.readable;
  fits = let P : Files → Type 0 = λ f. UnitsFit f d.units in subst P (sym is.files) has.units;
}

has_again : (images : ImageSet) (old new : DebugInfo) (r : BookReader) → HasBook images old → IsReaderOf images old r → new.files ≡ old.files → Reads r new.units → HasBook images new
has_again images old new r has is same now = record {
  none = ap (λ (f : DebugFiles). f.none) same ∙ has.none;
  files = has.files ∙ ap (λ (f : DebugFiles). Good (images_view f)) (sym same);
  units =
      let P : Files → Type 0 = λ f. UnitsFit f new.units in
      let e : files_view r.dwarf ≡ files_in (images_view new.files) = is.files ∙ ap (λ (f : DebugFiles). files_in (images_view f)) (sym same) in
      subst P e now.fits;
}

-- the debug information is kept over a call that kept what the reader reads
pub keeps_book : (images : ImageSet) (old new : DebugInfo) (r : BookReader) → HasBook images old → IsReaderOf images old r → new.files ≡ old.files → Keeps r old.units new.units → KeepsBook images old new
keeps_book images old new r has is same keeps = record { has = has_again images old new r has is same keeps.reads; stay = keeps.stay }

-- the frame of the bundle is the book that is read
pub frame_read : (images : ImageSet) (d : DebugInfo) (r : BookReader) → HasBook images d → IsReaderOf images d r → frame_of images ≡ Good (book_of r d.units)
frame_read images d r has is =
    frame_is images d has
    ∙ ap (λ (i : ImageSet). Good (record { images = i; files = files_in (images_view d.files); table = units_table d.units })) (sym is.bundle)
    ∙ ap (λ (f : Files). Good (record { images = bundle_view r.bundle; files = f; table = units_table d.units })) (sym is.files)

pub answer_read : (images : ImageSet) (d : DebugInfo) (r : BookReader) (a : ℕ) (opts : FindSymOpts) → HasBook images d → IsReaderOf images d r → answer_of images true a opts ≡ answer_in r.dwarf.texts (book_of r d.units) a opts
answer_read images d r a opts has is =
    ap (λ (p : Part Book). p >>= λ book. answer book a opts) (frame_read images d r has is)
    ∙ sym (same_answer r.dwarf.texts (texts_of (files_view r.dwarf)) (texts_are r.dwarf is.readable) (book_of r d.units) a opts)

pub answers_read : (images : ImageSet) (d : DebugInfo) (r : BookReader) (addrs : List ℕ) (opts : FindSymOpts) → HasBook images d → IsReaderOf images d r
    → all_good (map (answers_of images true opts) addrs) ≡ all_good (map (answers_in r.dwarf.texts (book_of r d.units) opts) addrs)
answers_read images d r addrs opts has is =
    ap all_good (same_map (answers_of images true opts) (answers_in r.dwarf.texts (book_of r d.units) opts) addrs (λ a. answer_read images d r a opts has is))

pub addresses_read : (images : ImageSet) (d : DebugInfo) (r : BookReader) (name : List ℕ) (opts : FindAddrOpts) → HasBook images d → IsReaderOf images d r → is_variable opts.sym_type ≡ false
    → addresses_of images true name opts ≡ addresses_in r.dwarf.texts (book_of r d.units) name opts.file_offset
unfolding addresses_of
addresses_read images d r name opts has is plain =
    ap (λ (b : Bool). check (not b) Unsupported >>= λ supported. frame_of images >>= λ book. addresses_in (texts_of book.files) book name opts.file_offset) plain
    ∙ ap (λ (p : Part Book). p >>= λ book. addresses_in (texts_of book.files) book name opts.file_offset) (frame_read images d r has is)
    ∙ sym (same_addresses r.dwarf.texts (texts_of (files_view r.dwarf)) (texts_are r.dwarf is.readable) (book_of r d.units) name opts.file_offset)

pub variables_refused : (images : ImageSet) (name : List ℕ) (opts : FindAddrOpts) → is_variable opts.sym_type ≡ true → addresses_of images true name opts ≡ Broken Unsupported
unfolding addresses_of
variables_refused images name opts is = ap (λ (b : Bool). check (not b) Unsupported >>= λ supported. frame_of images >>= λ book. addresses_in (texts_of book.files) book name opts.file_offset) is

pub listing_read : (images : ImageSet) (d : DebugInfo) (r : BookReader) (opts : FindAddrOpts) → HasBook images d → IsReaderOf images d r → is_variable opts.sym_type ≡ false
    → listing_in images true opts ≡ functions_listing r.dwarf.texts (book_of r d.units) opts.file_offset
unfolding listing_in
listing_read images d r opts has is plain =
    ap (λ (b : Bool). if b then broken_by Unsupported else listing_if (book_listing opts.file_offset) (frame_of images)) plain
    ∙ ap (listing_if (book_listing opts.file_offset)) (frame_read images d r has is)
    ∙ sym (same_units_listing r.dwarf.texts (texts_of (files_view r.dwarf)) (texts_are r.dwarf is.readable) (book_of r d.units) opts.file_offset 0 _)

pub no_variables : (images : ImageSet) (opts : FindAddrOpts) → is_variable opts.sym_type ≡ true → listing_in images true opts ≡ broken_by Unsupported
unfolding listing_in
no_variables images opts is = ap (λ (b : Bool). if b then broken_by Unsupported else listing_if (book_listing opts.file_offset) (frame_of images)) is

-- ---- rows

shown_again : (t : Texts) (o : Option LineTable) (lines : Option (Bor OrderedLines)) → o ≡ option_map (λ (l : Bor OrderedLines). l.now.table) lines → option_map (rows_with t) o ≡ option_map (λ (l : Bor OrderedLines). rows_with t l.now.table) lines
shown_again t o None is = rw is refl
shown_again t o (Some l) is = rw is refl

pub rows_read : (images : ImageSet) (d : DebugInfo) (w : Dwarf) (unit : ℕ) → HasBook images d → files_view w ≡ files_in (images_view d.files) → IsReadable w
    → rows_of images true unit ≡ (or_invalid (unit_lines (files_view w) (units_table d.units) unit) >>= λ lines. Good (option_map (rows_with w.texts) lines))
unfolding rows_of rows_in
rows_read images d w unit has files readable =
    ap (λ (p : Part Book). p >>= λ book. or_invalid (unit_lines book.files book.table unit) >>= λ lines. Good (option_map (rows_with (texts_of book.files)) lines)) (frame_is images d has)
    ∙ ap (λ (f : Files). or_invalid (unit_lines f (units_table d.units) unit) >>= λ lines. Good (option_map (rows_with (texts_of f)) lines)) (sym files)
    ∙ same_bind (or_invalid (unit_lines (files_view w) (units_table d.units) unit)) _ _ (λ lines. ap (λ (o : Option Rows). Good o) (same_option_map _ _ lines (λ table.
    ap (λ (files : List (List ℕ × List ℕ)). record { sequences = table.sequences; files = files }) (sym (same_map (file_text w.texts) (file_text (texts_of (files_view w))) table.files (same_file w.texts (texts_of (files_view w)) (texts_are w readable)))))))

-- lines that were read, with the texts that they name
pub rows_given : (t : Texts) (p : Part (Option LineTable)) (lines : Option (Bor OrderedLines)) (rows : Option Rows) → p ≡ Good (option_map (λ (l : Bor OrderedLines). l.now.table) lines) → rows ≡ option_map (λ (l : Bor OrderedLines). rows_with t l.now.table) lines → (p >>= λ lines. Good (option_map (rows_with t) lines)) ≡ Good rows
rows_given t p lines rows is shown = rw (is, shown) (ap (λ (o : Option Rows). Good o) (shown_again t _ lines refl))

pub lines_fit : (images : ImageSet) (d : DebugInfo) (w : Dwarf) → HasBook images d → files_view w ≡ files_in (images_view d.files) → UnitsFit (files_view w) d.units
lines_fit images d w has files = let P : Files → Type 0 = λ f. UnitsFit f d.units in subst P (sym files) has.units

-- a number that is counted among the units is one of the table
pub counted : (images : ImageSet) (o : Option DebugInfo) (d : DebugInfo) (unit : ℕ) → o ≡ Some d → HasBookIf images o → unit < unit_count_of images (is_some o) → unit < length (units_table d.units).kept
counted images o d unit e has there =
    let P : Option DebugInfo → Type 0 = λ o. HasBookIf images o in
    let Q : Option DebugInfo → Type 0 = λ o. unit < unit_count_of images (is_some o) in
    let R : ℕ → Type 0 = λ n. unit < n in
    subst R (ap count_of (frame_is images d (subst P e has))) (subst Q e there)
