-- The relocations of a file whose sections have no addresses yet (ELF gABI, Relocation).
use Rattle.std.specs.Prelude.{ℕ, ◌+◌, ◌-◌, ◌*◌, ◌/◌, ◌%◌, ◌^◌, List, [], ◌∷◌, slice_get, nat_lt, ◌==◌, Option, Some, None, if◌then◌else◌}
use Rattle.std.specs.List.{fold}
use Rattle.std.specs.FinMap as map
use Rattle.blz_constants.specs.declared.elf.TheConstants.{ET_REL, SHT_REL, SHT_RELA}
use Rattle.blz_error.specs.declared.kind.ErrorKind.TheVariants.{InvalidInput}
use Rattle.blz_model.specs.Part.{Part, Good, ◌>>=◌, or_mark}
use Rattle.blz_image.specs.declared.format.Class.{Class}
use Rattle.blz_image.specs.declared.format.Class.TheVariants.{Elf32, Elf64}
use Rattle.blz_image.specs.declared.format.Format.{Format}
use Rattle.blz_image.specs.declared.relocations.entries.EntryKind.{EntryKind}
use Rattle.blz_image.specs.declared.relocations.entries.EntryKind.TheVariants.{Rela, Rel}
use Rattle.blz_relocations.specs.declared.relocation.Relocation.{Relocation}
use Rattle.blz_relocations.specs.declared.relocation.Relocation.TheVariants.{Replaces, Adds}
use Rattle.blz_image.specs.Formats.{word, word_at, symbol_size, rela_size, rel_size}
use Rattle.blz_image.specs.Headers.{Header, header_of}
use Rattle.blz_image.specs.Sections.{sections_of, records_of}
use Rattle.blz_image.specs.declared.section.Section.{Section}
use Rattle.blz_image.specs.SymbolTables.{symbol_at}
use Rattle.blz_image.specs.declared.symbols.Symbol.{Symbol}
use Rattle.blz_relocations.specs.Relocations.{SectionMap, maps_of, with_relocation}

-- an entry: the place of the field, the index of the symbol, and the addend where the entry has one
pub record Entry : Type 0 where
  pub offset : ℕ
  pub symbol : ℕ
  pub addend : Option ℕ

-- SHT_RELA and SHT_REL
abbrev pub entry_kind : Section → Option EntryKind
entry_kind s = if s.kind == SHT_RELA then Some Rela else (if s.kind == SHT_REL then Some Rel else None)

-- the bytes of an entry: Elf32_Rela or Elf64_Rela, Elf32_Rel or Elf64_Rel
abbrev pub entry_size : EntryKind → Class → ℕ
entry_size Rela c = rela_size c
entry_size Rel c = rel_size c

-- ELF32_R_SYM and ELF64_R_SYM
abbrev pub symbol_index : Class → ℕ → ℕ
symbol_index Elf32 info = info / 2 ^ 8
symbol_index Elf64 info = info / 2 ^ 32

-- an addend in 64 bits, with the sign that it has in a word
abbrev pub sign_extended : Class → ℕ → ℕ
sign_extended Elf32 n = if nat_lt n (2 ^ 31) then n else n + (2 ^ 64 - 2 ^ 32)
sign_extended Elf64 n = n

-- r_addend, the third word of an entry; an entry of SHT_REL has none
abbrev pub addend_at : EntryKind → Format → List ℕ → ℕ → Option ℕ
addend_at Rela f bytes at = Some (sign_extended f.class (word_at f bytes (at + 2 * word f.class)))
addend_at Rel f bytes at = None

-- the entry at a place
abbrev pub entry_at : EntryKind → Format → List ℕ → ℕ → Entry
entry_at kind f bytes at = record {
  offset = word_at f bytes at;
  symbol = symbol_index f.class (word_at f bytes (at + word f.class));
  addend = addend_at kind f bytes at;
}

-- the value of a symbol, 0 where the index lies outside
abbrev pub value_at : List Symbol → ℕ → ℕ
value_at symbols index = of (slice_get symbols index)
  where
    of : Option Symbol → ℕ
    of None = 0
    of (Some s) = s.value

-- with an addend the sum replaces what is read, else the value is added to it
abbrev pub effect_of : ℕ → Option ℕ → Relocation
effect_of value None = Adds value
effect_of value (Some addend) = Replaces ((value + addend) % 2 ^ 64)

-- an entry of the section `target`
abbrev pub put_entry : List Symbol → ℕ → SectionMap → Entry → SectionMap
put_entry symbols target m e = with_relocation m target e.offset (effect_of (value_at symbols e.symbol) e.addend)

-- The entries of a section, in their order. The section `link` has their symbols, `info` is the section that they change.
unfoldable pub with_entries : Format → List ℕ → List Section → Section → EntryKind → SectionMap → Part SectionMap
with_entries f bytes sections s kind m = do
  table ← or_mark (slice_get sections s.link) InvalidInput
  symbols ← records_of (symbol_at f) (symbol_size f.class) bytes table
  entries ← records_of (entry_at kind f) (entry_size kind f.class) bytes s
  Good (fold (put_entry symbols s.info) m entries)

-- the relocations of a section, where it holds some
unfoldable pub with_section : Format → List ℕ → List Section → SectionMap → Section → Part SectionMap
with_section f bytes sections m s = of (entry_kind s)
  where
    of : Option EntryKind → Part SectionMap
    of None = Good m
    of (Some kind) = with_entries f bytes sections s kind m

-- those of some of the sections, in their order
unfoldable pub with_sections : Format → List ℕ → List Section → List Section → SectionMap → Part SectionMap
with_sections f bytes sections [] m = Good m
with_sections f bytes sections (s ∷ rest) m = with_section f bytes sections m s >>= with_sections f bytes sections rest

-- the relocations of a file: none unless it is relocatable (ET_REL)
unfoldable pub relocations_of : List ℕ → Header → List Section → Part SectionMap
relocations_of bytes h sections = if h.file_type == ET_REL then with_sections h.format bytes sections sections map.empty else Good map.empty

-- the relocations of an image, by the section that they change and the offset in it
unfoldable pub image_relocations : List ℕ → Part SectionMap
image_relocations image = do
  header ← header_of image
  sections ← sections_of image header
  relocations_of image header sections

-- of some relocations those of some sections
abbrev pub maps_in : List (Option ℕ) → Part SectionMap → Part SectionMap
maps_in targets relocations = relocations >>= λ all. Good (maps_of targets all)

-- the mark that they have
abbrev pub mark_in : Part SectionMap → Part (Unit {0})
mark_in relocations = relocations >>= λ all. Good tt
