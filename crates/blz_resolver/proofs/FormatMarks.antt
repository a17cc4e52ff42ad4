-- What is broken in an image has a kind of its format, and no other.
use Rattle.std.proofs.Common.{◌≡◌, ◌≢◌, ◌⊎◌, ℕ, Bool, true, false, List, [], ◌∷◌, map, Option, Some, None, Result, Ok, Err, refl, inl, inr, subst}
use Rattle.std.specs.FinMap as maps
use Rattle.std.specs.Result.{IfErr, IsErrAnd}
use Rattle.std.specs.Prelude.{⊤, if◌then◌else◌, nat_lt, length}
use Rattle.blz_error.specs.Fault.{Fault}
use Rattle.blz_error.specs.declared.kind.ErrorKind.{ErrorKind}
use Rattle.blz_error.specs.declared.kind.ErrorKind.TheVariants as kind
use Rattle.blz_model.specs.Part.{Part, Good, Broken, ◌>>=◌, or_mark, check, all_good, Fails, Gives, Exactly}
use Rattle.blz_model.specs.Texts.{name_at}
use Rattle.blz_model.specs.Answers.{Unknown}
use Rattle.blz_image.specs.declared.format.Format.{Format}
use Rattle.blz_symbols.specs.declared.question.Question.{Question}
use Rattle.blz_image.specs.declared.symbols.TableKind.{TableKind}
use Rattle.blz_image.specs.declared.symbols.TableKind.TheVariants.{Symtab, Dynsym}
use Rattle.blz_image.specs.Formats.{compression_size}
use Rattle.blz_image.specs.Headers.{Header, header_of}
use Rattle.blz_image.specs.Sections.{first_section, section_count, sections_of, raw_data, data_of, run_in, records_of, if_there}
use Rattle.blz_image.specs.declared.section.Section.{Section}
use Rattle.blz_image.specs.Images as image
use Rattle.blz_image.specs.declared.relocations.entries.EntryKind.{EntryKind}
use Rattle.blz_relocations.specs.Relocations.{SectionMap}
use Rattle.blz_image.specs.RelocationTables.{entry_kind, with_entries, with_section, with_sections, relocations_of, image_relocations}
use Rattle.blz_image.specs.SymbolTables.{SymbolTable, table_named, symtab_of, dynsym_of, table_of}
use Rattle.blz_image.specs.declared.symbols.Symbol.{Symbol}
use Rattle.blz_symbols.specs.SymbolRule as rule
use Rattle.blz_resolver.specs.FormatKinds.{IsFormatKind, IsMemoryOrFormat}

abbrev pub OnMark : {A : Type 0} → Part A → Type 0
OnMark (Good x) = ⊤
OnMark (Broken k) = IsFormatKind k

-- the mark of the part, if it is one, has a kind of the format
pub record Marks {A : Type 0} (p : Part A) : Type 0 where
  pub kind : OnMark p

pub marks_good : {A : Type 0} (x : A) → Marks (Good x)
marks_good x = record { kind = tt }

pub marks_broken : {A : Type 0} (k : ErrorKind) → IsFormatKind k → Marks {A = A} (Broken k)
marks_broken k is = record { kind = is }

pub marks_check : (b : Bool) (k : ErrorKind) → IsFormatKind k → Marks (check b k)
marks_check true k is = record { kind = tt }
marks_check false k is = record { kind = is }

pub marks_or : {A : Type 0} (o : Option A) (k : ErrorKind) → IsFormatKind k → Marks (or_mark o k)
marks_or None k is = record { kind = is }
marks_or (Some x) k is = record { kind = tt }

pub marks_bind : {A B : Type 0} (p : Part A) (f : A → Part B) → Marks p → ((x : A) → Marks (f x)) → Marks (p >>= f)
marks_bind (Good x) f first others = others x
marks_bind (Broken k) f first others = record { kind = first.kind }

pub marks_if : {A : Type 0} (b : Bool) (p q : Part A) → Marks p → Marks q → Marks (if b then p else q)
marks_if true p q first second = first
marks_if false p q first second = second

pub marks_all : {X A : Type 0} (f : X → Part A) (xs : List X) → ((x : X) → Marks (f x)) → Marks (all_good (map f xs))
marks_all f [] each_one = record { kind = tt }
marks_all f (x ∷ xs) each_one = marks_bind (f x) _ (each_one x) (λ y. marks_bind (all_good (map f xs)) _ (marks_all f xs each_one) (λ ys. marks_good (y ∷ ys)))

-- what is read where a first reading found nothing
pub marks_choice : {A B : Type 0} (p : Part (Option A)) (f : Option A → Part B) → Marks p → Marks (f None) → ((x : A) → Marks (f (Some x))) → Marks (p >>= f)
marks_choice (Good None) f first nothing some = nothing
marks_choice (Good (Some x)) f first nothing some = some x
marks_choice (Broken k) f first nothing some = record { kind = first.kind }

ruleset parts = (marks_good, marks_check, marks_or, marks_bind, marks_if, marks_all, marks_broken)

-- ---- the parts of an image

marks_name_at : (table : List ℕ) (at : ℕ) → Marks (name_at table at)
unfolding name_at
marks_name_at table at = search parts depth 20

pub marks_header : (bytes : List ℕ) → Marks (header_of bytes)
unfolding header_of
marks_header bytes = search parts depth 20

marks_first : (bytes : List ℕ) (h : Header) → Marks (first_section bytes h)
unfolding first_section
marks_first bytes h = search parts depth 20

marks_count : (bytes : List ℕ) (h : Header) → Marks (section_count bytes h)
unfolding section_count
marks_count bytes h = search (parts, marks_first) depth 20

pub marks_sections : (bytes : List ℕ) (h : Header) → Marks (sections_of bytes h)
unfolding sections_of
marks_sections bytes h = search (parts, marks_count) depth 20

marks_raw : (bytes : List ℕ) (s : Section) → Marks (raw_data bytes s)
unfolding raw_data
marks_raw bytes s = search parts depth 20

marks_data : (f : Format) (bytes : List ℕ) (s : Section) → Marks (data_of f bytes s)
unfolding data_of
marks_data f bytes s = marks_bind _ _ (marks_raw bytes s) (λ content. marks_if _ _ _ (marks_broken _ (by_length (nat_lt (length content) (compression_size f.class)))) (marks_good content))
  where
    by_length : (b : Bool) → IsFormatKind (if b then kind.InvalidData else kind.Unsupported)
    by_length true = tt
    by_length false = tt

marks_name_table : (bytes : List ℕ) (h : Header) (sections : List Section) → Marks (image.name_table bytes h sections)
unfolding image.name_table
marks_name_table bytes h sections = search (parts, marks_raw) depth 20

pub marks_names : (texts : List ℕ) (sections : List Section) → Marks (image.names_of texts sections)
unfolding image.names_of
marks_names texts sections = marks_all _ _ (λ s. marks_name_at texts s.name_offset)

pub marks_elf : (bytes : List ℕ) → Marks (image.elf_of bytes)
unfolding image.elf_of
marks_elf bytes = search (parts, marks_header, marks_sections, marks_name_table, marks_names) depth 20

marks_data_named : (elf : image.Elf) (name : List ℕ) (o : Option Section) → image.section_called elf name ≡ o → Marks (image.data_named elf name)
unfolding image.data_named
marks_data_named elf name None e = rw e (marks_good [])
marks_data_named elf name (Some s) e = rw e (marks_data elf.header.format elf.image s)

pub marks_image_data : (bytes name : List ℕ) → Marks (image.image_data_named bytes name)
unfolding image.image_data_named
marks_image_data bytes name = marks_bind _ _ (marks_elf bytes) (λ elf. marks_data_named elf name (image.section_called elf name) refl)

-- ---- the symbols

marks_run : (size : ℕ) (bytes : List ℕ) (s : Section) → Marks (run_in size bytes s)
unfolding run_in
marks_run size bytes s = search parts depth 20

marks_records : {A : Type 0} (record_at : List ℕ → ℕ → A) (size : ℕ) (bytes : List ℕ) (s : Section) → Marks (records_of record_at size bytes s)
unfolding records_of
marks_records record_at size bytes s = search (parts, marks_run) depth 20

marks_if_there : {A : Type 0} (read : Section → Part (List A)) (o : Option Section) → ((s : Section) → Marks (read s)) → Marks (if_there read o)
marks_if_there read None each_one = marks_good []
marks_if_there read (Some s) each_one = each_one s

marks_table_named : (elf : image.Elf) (name strings_name : List ℕ) → Marks (table_named elf name strings_name)
unfolding table_named
marks_table_named elf name strings_name = search (parts, marks_if_there, marks_records, marks_raw) depth 20

marks_table : (kind : TableKind) (elf : image.Elf) → Marks (table_of kind elf)
unfolding symtab_of dynsym_of
marks_table Symtab elf = search (parts, marks_table_named) depth 20
marks_table Dynsym elf = marks_table_named elf _ _

marks_named : (module_name : Option (List ℕ)) (table : SymbolTable) (s : Symbol) → Marks (rule.named module_name table s)
unfolding rule.named
marks_named module_name table s = search (parts, marks_name_at) depth 20

marks_answer_in : (module_name : Option (List ℕ)) (table : SymbolTable) (q : Question) (o : Option Symbol) → rule.covering q table.symbols ≡ o → Marks (rule.answer_in module_name table q)
unfolding rule.answer_in
marks_answer_in module_name table q None e = rw e (marks_good None)
marks_answer_in module_name table q (Some s) e = rw e (marks_bind _ _ (marks_named module_name table s) (λ answer. marks_good (Some answer)))

marks_table_answer : (module_name : Option (List ℕ)) (elf : image.Elf) (kind : TableKind) (addr : ℕ) → Marks (rule.table_answer module_name elf kind addr)
unfolding rule.table_answer
marks_table_answer module_name elf kind addr = marks_bind _ _ (marks_table kind elf) (λ table. marks_answer_in module_name table (rule.at_address kind addr) (rule.covering (rule.at_address kind addr) table.symbols) refl)

marks_reason : (elf : image.Elf) → Marks (rule.reason_for elf)
unfolding rule.reason_for
marks_reason elf = search (parts, marks_table) depth 20

marks_dynamic : (module_name : Option (List ℕ)) (elf : image.Elf) (addr : ℕ) → Marks (rule.dynamic_answer module_name elf addr)
unfolding rule.dynamic_answer
marks_dynamic module_name elf addr = marks_choice _ _ (marks_table_answer module_name elf Dynsym addr) (marks_bind _ _ (marks_reason elf) (λ reason. marks_good (Unknown reason))) (λ answer. marks_good answer)

marks_symbol_for : (module_name : Option (List ℕ)) (elf : image.Elf) (addr : ℕ) → Marks (rule.symbol_for module_name elf addr)
unfolding rule.symbol_for
marks_symbol_for module_name elf addr = marks_choice _ _ (marks_table_answer module_name elf Symtab addr) (marks_dynamic module_name elf addr) (λ answer. marks_good answer)

pub marks_image_symbol : (bytes : List ℕ) (module_name : Option (List ℕ)) (addr : ℕ) → Marks (rule.image_symbol bytes module_name addr)
unfolding rule.image_symbol
marks_image_symbol bytes module_name addr = search (parts, marks_elf, marks_symbol_for) depth 20

-- ---- the relocations

marks_entries : (f : Format) (bytes : List ℕ) (sections : List Section) (s : Section) (kind : EntryKind) (m : SectionMap) → Marks (with_entries f bytes sections s kind m)
unfolding with_entries
marks_entries f bytes sections s kind m = search (parts, marks_records) depth 20

marks_section : (f : Format) (bytes : List ℕ) (sections : List Section) (m : SectionMap) (s : Section) (o : Option EntryKind) → entry_kind s ≡ o → Marks (with_section f bytes sections m s)
unfolding with_section
marks_section f bytes sections m s None e = rw e (marks_good m)
marks_section f bytes sections m s (Some kind) e = rw e (marks_entries f bytes sections s kind m)

marks_some_sections : (f : Format) (bytes : List ℕ) (sections rest : List Section) (m : SectionMap) → Marks (with_sections f bytes sections rest m)
unfolding with_sections
marks_some_sections f bytes sections [] m = marks_good m
marks_some_sections f bytes sections (s ∷ rest) m = marks_bind _ _ (marks_section f bytes sections m s (entry_kind s) refl) (marks_some_sections f bytes sections rest)

pub marks_relocations : (bytes : List ℕ) → Marks (image_relocations bytes)
unfolding image_relocations relocations_of
marks_relocations bytes = marks_bind _ _ (marks_header bytes) (λ h. marks_bind _ _ (marks_sections bytes h) (λ sections. marks_if _ _ _ (marks_some_sections _ bytes sections sections maps.empty) (marks_good maps.empty)))

-- ---- the error of a call that gives a part

pub format_kind : {A : Type 0} (p : Part A) (k : ErrorKind) → Marks p → p ≡ Broken k → IsFormatKind k
format_kind {A = A} p k marks is = let Q : Part A → Type 0 = λ p. OnMark p in subst Q is marks.kind

memory_or_not : (k : ErrorKind) → (k ≡ kind.OutOfMemory) ⊎ (k ≢ kind.OutOfMemory)
memory_or_not kind.NotFound = inr (λ e. absurd cc)
memory_or_not kind.PermissionDenied = inr (λ e. absurd cc)
memory_or_not kind.AlreadyExists = inr (λ e. absurd cc)
memory_or_not kind.WouldBlock = inr (λ e. absurd cc)
memory_or_not kind.InvalidInput = inr (λ e. absurd cc)
memory_or_not kind.InvalidData = inr (λ e. absurd cc)
memory_or_not kind.InvalidDwarf = inr (λ e. absurd cc)
memory_or_not kind.TimedOut = inr (λ e. absurd cc)
memory_or_not kind.WriteZero = inr (λ e. absurd cc)
memory_or_not kind.Unsupported = inr (λ e. absurd cc)
memory_or_not kind.UnexpectedEof = inr (λ e. absurd cc)
memory_or_not kind.OutOfMemory = inl refl
memory_or_not kind.Other = inr (λ e. absurd cc)

pub memory_or_format : {A : Type 0} (p : Part A) (k : ErrorKind) → Marks p → Fails k p → IsMemoryOrFormat k
memory_or_format p k marks fails = by (memory_or_not k)
  where
    by : (k ≡ kind.OutOfMemory) ⊎ (k ≢ kind.OutOfMemory) → IsMemoryOrFormat k
    by (inl memory) = inl memory
    by (inr other) = inr (format_kind p k marks (fails other))

pub exactly_kinds : {X Y : Type 0} (view : X → Y) (result : Result X Fault) (p : Part Y) → Marks p → Exactly view result p → IfErr result (λ e. IsFormatKind e.kind)
exactly_kinds view (Ok x) p marks exactly = tt
exactly_kinds view (Err e) p marks exactly = format_kind p e.kind marks exactly.0

pub gives_kinds : {X Y : Type 0} (view : X → Y) (result : Result X Fault) (p : Part Y) → Marks p → Gives view result p → IfErr result (λ e. IsMemoryOrFormat e.kind)
gives_kinds view (Ok x) p marks gives = tt
gives_kinds view (Err e) p marks gives = memory_or_format p e.kind marks gives

-- an error that was converted has what its source gives it
pub if_err_from : {T E : Type 0} (r : Result T E) (P Q : E → Type 0) → IsErrAnd r Q → ((e : E) → Q e → P e) → IfErr r P
if_err_from (Ok x) P Q is weaker = tt
if_err_from (Err e) P Q is weaker = weaker e is
