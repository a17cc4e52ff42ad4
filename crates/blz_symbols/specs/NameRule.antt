-- The symbols whose names are read, and those of a name.
use Rattle.std.specs.Prelude.{ℕ, Bool, true, false, ◌&&◌, not, List, length, map, filter, ◌==◌, Option, Some, None, if◌then◌else◌}
use Rattle.std.specs.Str.{bytes_eq}
use Rattle.blz_constants.specs.declared.elf.TheConstants.{SHN_UNDEF}
use Rattle.blz_model.specs.Part.{Part, Good, Broken, ◌>>=◌, all_good}
use Rattle.blz_model.specs.Texts.{name_bytes, name_at}
use Rattle.blz_records.specs.declared.sym_type.SymType.{SymType}
use Rattle.blz_records.specs.SymbolTypes.{matches}
use Rattle.blz_image.specs.declared.symbols.TableKind.{TableKind}
use Rattle.blz_image.specs.declared.symbols.TableKind.TheVariants.{Symtab, Dynsym}
use Rattle.blz_image.specs.Images.{Elf, elf_of}
use Rattle.blz_image.specs.SymbolTables.{SymbolTable, is_typed, table_of, type_of}
use Rattle.blz_image.specs.declared.symbols.Symbol.{Symbol}
use Rattle.blz_symbols.specs.SymbolRule.{covering}

-- a symbol, and the bytes of its name
pub record Named : Type 0 where
  pub symbol : Symbol
  pub name : List ℕ

unfoldable pub read_name : List ℕ → Symbol → Part Named
read_name strings s = do
  name ← name_bytes strings s.name_offset
  Good (record { symbol = s; name = name })

-- ---- dynamic symbols that `.symtab` has too

abbrev pub is_good : {A : Type 0} → Part A → Bool
is_good (Good x) = true
is_good (Broken k) = false

abbrev pub can_be_named : List ℕ → Option Symbol → Bool
can_be_named strings None = false
can_be_named strings (Some s) = is_good (name_at strings s.name_offset)

-- `.symtab` answers a symbol of the same type at its value, with a name that can be read
unfoldable pub is_excluded : SymbolTable → Symbol → Bool
is_excluded symtab s = can_be_named symtab.strings (covering (record { table = Symtab; addr = s.value; sym_type = type_of s }) symtab.symbols)

abbrev pub is_kept_beside : Option SymbolTable → Symbol → Bool
is_kept_beside None s = true
is_kept_beside (Some symtab) s = not (is_excluded symtab s)

-- the symbols whose names are read: those of an answered type, without the excluded ones
abbrev pub is_asked : Option SymbolTable → Symbol → Bool
is_asked symtab s = is_typed s && is_kept_beside symtab s

-- ---- lists

-- defined, and of that name
abbrev pub is_called : List ℕ → Named → Bool
is_called name n = not (n.symbol.section == SHN_UNDEF) && bytes_eq n.name name

-- defined, and of that type
abbrev pub is_of_type : SymType → Named → Bool
is_of_type sym_type n = not (n.symbol.section == SHN_UNDEF) && matches n.symbol.kind sym_type

-- the symbols of a table whose names are read, in table order, with their names
unfoldable pub asked_names : Option SymbolTable → SymbolTable → Part (List Named)
asked_names symtab table = all_good (map (read_name table.strings) (filter (is_asked symtab) table.symbols))

-- those of one of the two tables: of `.dynsym` without those that `.symtab` has too
unfoldable pub symbol_names : TableKind → Elf → Part (List Named)
symbol_names Symtab elf = do
  symtab ← table_of Symtab elf
  asked_names None symtab
symbol_names Dynsym elf = do
  symtab ← table_of Symtab elf
  dynsym ← table_of Dynsym elf
  asked_names (Some symtab) dynsym

-- those that pass a test, in table order, once all names were read
unfoldable pub listed_names : TableKind → Elf → (Named → Bool) → Part (List Named)
listed_names kind elf passes = do
  names ← symbol_names kind elf
  Good (filter passes names)

unfoldable pub image_symbol_names : TableKind → List ℕ → Part (List Named)
image_symbol_names kind image = do
  elf ← elf_of image
  symbol_names kind elf

-- the names of a table can be read
unfoldable pub names_read : TableKind → Elf → Part (Unit {0})
names_read kind elf = do
  names ← symbol_names kind elf
  Good tt

-- the symbols of a name: those of `.symtab`, else those of `.dynsym`
unfoldable pub called_list : Elf → List ℕ → Part (List Named)
called_list elf name = do
  own ← listed_names Symtab elf (is_called name)
  if length own == 0 then listed_names Dynsym elf (is_called name) else Good own

-- the names of both tables can be read
unfoldable pub image_names : List ℕ → Part (Unit {0})
image_names image = do
  elf ← elf_of image
  own ← names_read Symtab elf
  names_read Dynsym elf
