-- The relocations of one section. Its tables are read from the last to the first, so what is read later counts where nothing
-- was read before.
use Rattle.std.specs.Prelude.{ℕ, List, [], ◌∷◌, slice_get, ◌==◌, Option, Some, None, if◌then◌else◌}
use Rattle.std.specs.FinMap as map
use Rattle.blz_error.specs.declared.kind.ErrorKind.TheVariants.{InvalidInput}
use Rattle.blz_model.specs.Part.{Part, Good, Broken, ◌>>=◌, or_mark}
use Rattle.blz_image.specs.declared.relocations.entries.EntryKind.{EntryKind}
use Rattle.blz_image.specs.declared.format.Format.{Format}
use Rattle.blz_image.specs.declared.section.Section.{Section}
use Rattle.blz_image.specs.declared.symbols.Symbol.{Symbol}
use Rattle.blz_image.specs.declared.relocations.table.RelocationTable as code
use Rattle.blz_image.specs.EntryPlaces.{entries_in}
use Rattle.blz_image.specs.Formats.{symbol_size}
use Rattle.blz_image.specs.Places.{RowsFit, symbols_in}
use Rattle.blz_image.specs.RelocationTables.{Entry, effect_of, entry_at, entry_kind, entry_size, value_at}
use Rattle.blz_image.specs.Sections.{records_of}
use Rattle.blz_image.specs.SymbolTables.{symbol_at}
use Rattle.blz_relocations.specs.Relocations.{OffsetMap, with_absent}

-- the entries of a section of relocations, and the symbols that they name
pub record Table : Type 0 where
  pub symbols : List Symbol
  pub entries : List Entry

-- the table that a section holds: the section `link` has its symbols
unfoldable pub table_part : Format → List ℕ → List Section → Section → EntryKind → Part Table
table_part f bytes sections s kind = do
  table ← or_mark (slice_get sections s.link) InvalidInput
  symbols ← records_of (symbol_at f) (symbol_size f.class) bytes table
  entries ← records_of (entry_at kind f) (entry_size kind f.class) bytes s
  Good (record { symbols = symbols; entries = entries })

-- what a table in the code stands for
abbrev pub table_view : List ℕ → code.RelocationTable → Table
table_view image t = record { symbols = symbols_in image t.symbols; entries = entries_in t.kind image t.entries }

-- it lies in the image
pub record TableFits (image : List ℕ) (t : code.RelocationTable) : Type 0 where
  pub symbols : RowsFit symbol_size image t.symbols
  pub entries : RowsFit (entry_size t.kind) image t.entries

-- ---- the marks, which headers alone decide

-- the mark of a section, where it holds relocations
unfoldable pub section_mark : Format → List ℕ → List Section → Section → Part (Unit {0})
section_mark f bytes sections s = of (entry_kind s)
  where
    of : Option EntryKind → Part (Unit {0})
    of None = Good tt
    of (Some kind) = table_part f bytes sections s kind >>= λ t. Good tt

-- the first mark of some of the sections
unfoldable pub section_marks : Format → List ℕ → List Section → List Section → Part (Unit {0})
section_marks f bytes sections [] = Good tt
section_marks f bytes sections (s ∷ rest) = section_mark f bytes sections s >>= λ u. section_marks f bytes sections rest

-- ---- the relocations of the section `target`

-- an entry, where its offset has none
abbrev pub put_absent : List Symbol → OffsetMap → Entry → OffsetMap
put_absent symbols m e = with_absent m e.offset (effect_of (value_at symbols e.symbol) e.addend)

-- entries beneath what was read before, the last first
abbrev pub beneath : List Symbol → List Entry → OffsetMap → OffsetMap
beneath symbols [] m = m
beneath symbols (e ∷ es) m = put_absent symbols (beneath symbols es m) e

-- a table beneath it, where it can be read
abbrev pub beneath_part : Part Table → OffsetMap → OffsetMap
beneath_part (Good t) m = beneath t.symbols t.entries m
beneath_part (Broken k) m = m

-- a section beneath it, where that holds relocations of the target
unfoldable pub beneath_section : Format → List ℕ → List Section → ℕ → OffsetMap → Section → OffsetMap
beneath_section f bytes sections target m s = of (entry_kind s)
  where
    of : Option EntryKind → OffsetMap
    of None = m
    of (Some kind) = if s.info == target then beneath_part (table_part f bytes sections s kind) m else m

-- some of the sections alone, the last first
unfoldable pub beneath_sections : Format → List ℕ → List Section → ℕ → List Section → OffsetMap
beneath_sections f bytes sections target [] = map.empty
beneath_sections f bytes sections target (s ∷ rest) = beneath_section f bytes sections target (beneath_sections f bytes sections target rest) s
