-- The tables of symbols, with the strings of their names (ELF gABI, Symbol Table).
use Rattle.std.specs.Prelude.{ℕ, ◌+◌, ◌*◌, ◌%◌, Bool, ◌&&◌, ◌||◌, not, List, length, codes, slice_index, ◌==◌, is_some}
use Rattle.std.specs.Option.{unwrap_or}
use Rattle.blz_constants.specs.declared.elf.TheConstants.{STT_FUNC, STT_GNU_IFUNC, STT_NOTYPE, STT_OBJECT}
use Rattle.blz_error.specs.declared.kind.ErrorKind.TheVariants.{Unsupported}
use Rattle.blz_model.specs.Numbers.{field}
use Rattle.blz_model.specs.Part.{Part, Good, ◌>>=◌, check}
use Rattle.blz_records.specs.declared.sym_type.SymType.{SymType}
use Rattle.blz_records.specs.declared.sym_type.SymType.TheVariants.{Undefined}
use Rattle.blz_records.specs.SymbolTypes.{sym_type_of}
use Rattle.blz_image.specs.declared.format.Class.{Class}
use Rattle.blz_image.specs.declared.format.Class.TheVariants.{Elf32, Elf64}
use Rattle.blz_image.specs.declared.format.Format.{Format}
use Rattle.blz_image.specs.Formats.{word, symbol_size, word_at}
use Rattle.blz_image.specs.Sections.{raw_data, records_of, if_there}
use Rattle.blz_image.specs.declared.symbols.TableKind.{TableKind}
use Rattle.blz_image.specs.declared.symbols.TableKind.TheVariants.{Symtab, Dynsym}
use Rattle.blz_image.specs.Images.{Elf, elf_of, section_named, section_called}
use Rattle.blz_image.specs.declared.symbols.Symbol.{Symbol}

-- where st_info stands in a symbol
abbrev pub info_place : Class → ℕ
info_place Elf32 = 12
info_place Elf64 = 4

-- the symbol at a place; its type is the lower half of st_info
abbrev pub symbol_at : Format → List ℕ → ℕ → Symbol
symbol_at f bytes at = record {
  name_offset = field f.order bytes at 4;
  value = word_at f bytes (at + word f.class);
  size = word_at f bytes (at + 2 * word f.class);
  kind = slice_index bytes (at + info_place f.class) % 16;
  section = field f.order bytes (at + info_place f.class + 2) 2;
}

-- STT_NOTYPE, STT_OBJECT, STT_FUNC and STT_GNU_IFUNC: the types that are answered
abbrev pub is_typed : Symbol → Bool
is_typed s = (s.kind == STT_NOTYPE) || (s.kind == STT_OBJECT) || (s.kind == STT_FUNC) || (s.kind == STT_GNU_IFUNC)

-- what it names
abbrev pub type_of : Symbol → SymType
type_of s = unwrap_or (sym_type_of s.kind) Undefined

-- a table of symbols, with the bytes of their names
pub record SymbolTable : Type 0 where
  pub symbols : List Symbol
  pub strings : List ℕ

-- the symbols of the section of that name, with the strings of another
unfoldable pub table_named : Elf → List ℕ → List ℕ → Part SymbolTable
table_named elf name strings_name = do
  symbols ← if_there (records_of (symbol_at elf.header.format) (symbol_size elf.header.format.class) elf.image) (section_called elf name)
  strings ← if_there (raw_data elf.image) (section_called elf strings_name)
  Good (record { symbols = symbols; strings = strings })

-- The table of `.symtab`. Nothing unpacks the symbols of a `.gnu_debugdata` beside an empty one.
unfoldable pub symtab_of : Elf → Part SymbolTable
symtab_of elf = do
  table ← table_named elf (codes ".symtab") (codes ".strtab")
  plain ← check (not ((length table.symbols == 0) && is_some (section_named elf (codes ".gnu_debugdata")))) Unsupported
  Good table

-- the table of `.dynsym`
unfoldable pub dynsym_of : Elf → Part SymbolTable
dynsym_of elf = table_named elf (codes ".dynsym") (codes ".dynstr")

-- the table of `.symtab` or of `.dynsym`, with its strings
abbrev pub table_of : TableKind → Elf → Part SymbolTable
table_of Symtab elf = symtab_of elf
table_of Dynsym elf = dynsym_of elf

-- the tables of an image
unfoldable pub image_table : TableKind → List ℕ → Part SymbolTable
image_table kind image = do
  elf ← elf_of image
  table_of kind elf
