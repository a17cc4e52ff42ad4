-- What a symbol that is looked up by its name, or listed, is told as.
use Rattle.std.specs.Prelude.{ℕ, ◌+◌, ◌-◌, ◌%◌, ◌^◌, Bool, ◌&&◌, ◌||◌, not, List, map, slice_get, nat_le, nat_lt, ◌==◌, Option, Some, None, option_map, if◌then◌else◌}
use Rattle.blz_constants.specs.declared.elf.TheConstants.{SHN_LORESERVE}
use Rattle.blz_error.specs.declared.kind.ErrorKind.TheVariants.{InvalidInput}
use Rattle.blz_model.specs.Part.{Part, Good, ◌>>=◌, or_mark, all_good}
use Rattle.blz_records.specs.declared.sym_type.SymType.{SymType}
use Rattle.blz_image.specs.Images.{Elf, elf_of}
use Rattle.blz_image.specs.Names.{text_of}
use Rattle.blz_image.specs.Sections.{is_nobits}
use Rattle.blz_image.specs.SymbolTables.{type_of}
use Rattle.blz_image.specs.declared.section.Section.{Section}
use Rattle.blz_image.specs.declared.symbols.Symbol.{Symbol}
use Rattle.blz_symbols.specs.NameRule.{Named, called_list}
use Rattle.blz_elf.specs.declared.sym_info.SymInfo.{SymInfo}

pub record Info : Type 0 where
  pub name : List ℕ
  pub addr : ℕ
  pub size : Option ℕ
  pub sym_type : SymType
  pub file_offset : Option ℕ
  pub module_name : Option (List ℕ)

abbrev pub info_view : SymInfo → Info
info_view s = record {
  name = s.name.now;
  addr = s.addr;
  size = s.size;
  sym_type = s.sym_type;
  file_offset = s.file_offset;
  module_name = option_map (λ m. m.now) s.module;
}

-- the place in the file of a value of a section, modulo 2 ^ 64
abbrev pub place_from : Section → ℕ → ℕ
place_from s value = ((value + (2 ^ 64 - s.addr)) % 2 ^ 64 + s.offset) % 2 ^ 64

-- a place before the end of the section's bytes; a symbol without a size may stand at the end
abbrev pub is_held : Section → ℕ → ℕ → Bool
is_held s size place = nat_lt place (s.offset + s.size) || ((place == s.offset + s.size) && (size == 0))

-- the place of a symbol in the file, where its section has bytes and holds it
abbrev pub place_in : Section → Symbol → Option ℕ
place_in s symbol =
    if not (is_nobits s) && is_held s symbol.size (place_from s symbol.value) then Some (place_from s symbol.value) else None

-- from SHN_LORESERVE up an index names no section
unfoldable pub symbol_place : Elf → Symbol → Part (Option ℕ)
symbol_place elf symbol =
    if nat_le SHN_LORESERVE symbol.section then Good None
    else (do
      s ← or_mark (slice_get elf.sections symbol.section) InvalidInput
      Good (place_in s symbol))

unfoldable pub place_if : Bool → Elf → Symbol → Part (Option ℕ)
place_if asked elf symbol = if asked then symbol_place elf symbol else Good None

unfoldable pub info_of : Elf → Option (List ℕ) → Bool → Named → Part Info
info_of elf module_name with_place n = do
  name ← text_of n.name
  place ← place_if with_place elf n.symbol
  Good (record { name = name; addr = n.symbol.value; size = Some n.symbol.size; sym_type = type_of n.symbol; file_offset = place; module_name = module_name })

-- the infos of the symbols of a name
unfoldable pub image_addresses : List ℕ → Option (List ℕ) → List ℕ → Bool → Part (List Info)
image_addresses image module_name name with_place = do
  elf ← elf_of image
  called ← called_list elf name
  all_good (map (info_of elf module_name with_place) called)
