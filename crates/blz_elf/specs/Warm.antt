-- Kept parts, and the image that they fit.
use Rattle.std.specs.Prelude.{◌≡◌, ℕ, Bool, true, false, List, is_some}
use Rattle.blz_model.specs.declared.cache.Cache.{Cache}
use Rattle.blz_model.specs.declared.cache.Cache.TheVariants.{Empty, Value, Mark}
use Rattle.blz_model.specs.Kept.{Kept, is_kept}
use Rattle.blz_image.specs.Headers.{header_of}
use Rattle.blz_image.specs.Images.{elf_of, image_sections}
use Rattle.blz_image.specs.Formats.{section_size}
use Rattle.blz_symbols.specs.declared.table.Table.{Table}
use Rattle.blz_elf.specs.declared.warm.ElfWarm.{ElfWarm}
use Rattle.blz_image.specs.Views.{header_view}
use Rattle.blz_image.specs.Places.{RowsFit, sections_in}
use Rattle.blz_image.specs.Frames.{FrameFits, frame_view}
use Rattle.blz_image.specs.declared.image.Frame.{Frame}
use Rattle.blz_image.specs.declared.symbols.TableKind.{TableKind}
use Rattle.blz_image.specs.declared.symbols.TableKind.TheVariants.{Symtab, Dynsym}
use Rattle.blz_image.specs.SymbolTables.{image_table}
use Rattle.blz_image.specs.RelocationTables.{image_relocations}
use Rattle.blz_relocations.specs.Relocations.{SectionMap}
use Rattle.blz_symbols.specs.declared.name_order.KeptNames.{KeptNames}
use Rattle.blz_symbols.specs.NameOrders.{NamesFit, names_view}
use Rattle.blz_symbols.specs.NameRule.{image_symbol_names}
use Rattle.blz_symbols.specs.Tables.{TableFits, table_view}

-- a table, with its order where it has one
abbrev pub is_sorted : Cache Table → Bool
is_sorted Empty = false
is_sorted (Value t) = is_some t.sorted
is_sorted (Mark k) = true

-- what is kept of the frame, of the bytes of an image
abbrev pub KeepsFrame : List ℕ → Cache Frame → Type 0
KeepsFrame image c = Kept (FrameFits image) (frame_view image) c (elf_of image)

-- what is kept of a table of symbols, of such bytes
abbrev pub KeepsTable : TableKind → List ℕ → Cache Table → Type 0
KeepsTable kind image c = Kept (TableFits image) (table_view image) c (image_table kind image)

-- what is kept of the names of a table, of such bytes
abbrev pub KeepsNames : TableKind → List ℕ → Cache KeptNames → Type 0
KeepsNames kind image c = Kept (NamesFit image) (names_view image) c (image_symbol_names kind image)

-- what is kept of the relocations, of such bytes
abbrev pub KeepsRelocations : List ℕ → Cache SectionMap → Type 0
KeepsRelocations image c = Kept (λ _. Unit {0}) (λ m. m) c (image_relocations image)

pub record AllKept (w : ElfWarm) : Type 0 where
  pub frame : is_kept w.frame ≡ true
  pub symtab : is_sorted w.symtab ≡ true
  pub dynsym : is_sorted w.dynsym ≡ true
  pub symtab_names : is_kept w.symtab_names ≡ true
  pub dynsym_names : is_kept w.dynsym_names ≡ true

-- Each cache is empty, or holds what its part is. A prepared one has them all.
pub record Fits (image : List ℕ) (w : ElfWarm) : Type 0 where
  pub header : Kept (λ _. Unit {0}) header_view w.header (header_of image)
  pub sections : Kept (RowsFit section_size image) (sections_in image) w.sections (image_sections image)
  pub frame : KeepsFrame image w.frame
  pub symtab : KeepsTable Symtab image w.symtab
  pub dynsym : KeepsTable Dynsym image w.dynsym
  pub symtab_names : KeepsNames Symtab image w.symtab_names
  pub dynsym_names : KeepsNames Dynsym image w.dynsym_names
  pub relocations : KeepsRelocations image w.relocations
  pub full : w.prepared ≡ true → AllKept w

-- whether `prepare` filled them
abbrev pub warm_prepared : ElfWarm → Bool
warm_prepared w = w.prepared

-- whether the relocations were read
abbrev pub warm_relocated : ElfWarm → Bool
warm_relocated w = is_kept w.relocations
