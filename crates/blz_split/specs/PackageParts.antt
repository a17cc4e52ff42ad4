-- A package of split units (DWARF 5 section 7.3.5).
use Rattle.std.specs.Prelude.{ℕ, ◌+◌, ◌≤◌, List, length, Option, Some, None, nat_le, option_and_then, if◌then◌else◌}
use Rattle.blz_constants.specs.declared.dwarf.TheConstants as dwarf
use Rattle.blz_error.specs.declared.kind.ErrorKind.TheVariants.{InvalidDwarf}
use Rattle.blz_model.specs.declared.byte_order.ByteOrder.{ByteOrder}
use Rattle.blz_model.specs.Part.{Part, Good, or_mark, ◌>>=◌}
use Rattle.blz_image.specs.Images.{image_order, image_data_named}
use Rattle.blz_split.specs.SectionNames.{name_of}
use Rattle.blz_split.specs.declared.dwo_section.DwoSection.TheVariants.{Abbrev, Index, Info, RngLists, Strings, StrOffsets}
use Rattle.blz_split.specs.declared.tables.Tables.{Tables}
use Rattle.blz_split.specs.declared.package.Package.{Package}
use Rattle.blz_split.specs.declared.split_unit.Piece.{Piece}
use Rattle.blz_split.specs.declared.split_unit.SplitUnit.{SplitUnit}
use Rattle.blz_split.specs.Contributions.{index_tables, found_row, contribution}

-- the sections of a package that split units are read from, its index of units, and its byte order
pub record PackageParts : Type 0 where
  pub «abbrev» : List ℕ
  pub index : List ℕ
  pub info : List ℕ
  pub rnglists : List ℕ
  pub strings : List ℕ
  pub str_offsets : List ℕ
  pub order : ByteOrder

abbrev pub package_view : Package → PackageParts
package_view p = record { «abbrev» = p.«abbrev».now; index = p.index.now; info = p.info.now; rnglists = p.rnglists.now; strings = p.strings.now; str_offsets = p.str_offsets.now; order = p.order }

-- the bytes of its sections
abbrev pub package_size : PackageParts → ℕ
package_size p = length p.«abbrev» + length p.index + length p.info + length p.rnglists + length p.strings + length p.str_offsets

-- the package of an image: its sections in this order, and an index that has to have a value
unfoldable pub package_of : List ℕ → Part PackageParts
package_of image = do
  order ← image_order image
  abbreviations ← image_data_named image (name_of Abbrev)
  index ← image_data_named image (name_of Index)
  info ← image_data_named image (name_of Info)
  rnglists ← image_data_named image (name_of RngLists)
  strings ← image_data_named image (name_of Strings)
  str_offsets ← image_data_named image (name_of StrOffsets)
  tables ← or_mark (index_tables order index) InvalidDwarf
  Good (record { «abbrev» = abbreviations; index = index; info = info; rnglists = rnglists; strings = strings; str_offsets = str_offsets; order = order })

-- the pieces of a row
unfoldable pub row_pieces : PackageParts → Tables → ℕ → Option SplitUnit
row_pieces p t row =
    option_and_then (λ info. option_and_then (λ abbreviations. option_and_then (λ str_offsets. option_and_then (λ rnglists.
    Some (record { info = info; «abbrev» = abbreviations; str_offsets = str_offsets; rnglists = rnglists }))
    (contribution p.order p.index t row dwarf.DW_SECT_RNGLISTS (length p.rnglists)))
    (contribution p.order p.index t row dwarf.DW_SECT_STR_OFFSETS (length p.str_offsets)))
    (contribution p.order p.index t row dwarf.DW_SECT_ABBREV (length p.«abbrev»)))
    (contribution p.order p.index t row dwarf.DW_SECT_INFO (length p.info))

-- the pieces of the unit whose row was found; the row has to be there
abbrev pub unit_of_row : PackageParts → Tables → Option ℕ → Option (Option SplitUnit)
unit_of_row p t None = Some None
unit_of_row p t (Some row) = if nat_le row t.units then option_and_then (λ (u : SplitUnit). Some (Some u)) (row_pieces p t row) else None

-- the pieces of the split unit of an id, none where no slot has the id together with a row
unfoldable pub split_unit : PackageParts → ℕ → Option (Option SplitUnit)
split_unit p id = option_and_then (λ (t : Tables). unit_of_row p t (found_row p.order p.index t id)) (index_tables p.order p.index)

abbrev pub Inside : Piece → List ℕ → Type 0
Inside p bytes = p.start + p.len ≤ length bytes

-- each piece lies inside its section
pub record PiecesFit (p : PackageParts) (u : SplitUnit) : Type 0 where
  pub info : Inside u.info p.info
  pub abbreviations : Inside u.«abbrev» p.«abbrev»
  pub str_offsets : Inside u.str_offsets p.str_offsets
  pub rnglists : Inside u.rnglists p.rnglists

abbrev pub IfPiecesFit : PackageParts → Option SplitUnit → Type 0
IfPiecesFit p None = Unit {0}
IfPiecesFit p (Some u) = PiecesFit p u
