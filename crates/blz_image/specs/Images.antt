-- An ELF image: header, sections, names.
use Rattle.std.specs.Prelude.{ℕ, Bool, false, ◌&&◌, not, List, [], length, map, drop, slice_get, nat_lt, ◌==◌, Option, Some, None, option_and_then, if◌then◌else◌}
use Rattle.std.specs.List.{position_from}
use Rattle.std.specs.Option.{option_map}
use Rattle.std.specs.Str.{bytes_eq}
use Rattle.blz_constants.specs.declared.elf.TheConstants.{ET_REL, SHN_XINDEX}
use Rattle.blz_error.specs.declared.kind.ErrorKind.TheVariants.{InvalidInput}
use Rattle.blz_model.specs.declared.byte_order.ByteOrder.{ByteOrder}
use Rattle.blz_model.specs.Part.{Part, Good, ◌>>=◌, or_mark, all_good}
use Rattle.blz_model.specs.Texts.{name_at}
use Rattle.blz_image.specs.Headers.{Header, header_of}
use Rattle.blz_image.specs.Sections.{is_nobits, sections_of, raw_data, data_of}
use Rattle.blz_image.specs.declared.section.Section.{Section}

-- The index of the table of the sections' names; SHN_XINDEX says that it stands in the first section header.
abbrev pub name_index : Header → List Section → Option ℕ
name_index h sections = if h.shstrndx == SHN_XINDEX then option_map (λ s. s.link) (slice_get sections 0) else Some h.shstrndx

-- The table of the sections' names. With fewer than two sections it is not read.
unfoldable pub name_table : List ℕ → Header → List Section → Part (List ℕ)
name_table bytes h sections =
    if nat_lt (length sections) 2 then Good []
    else (do
      table ← or_mark (option_and_then (slice_get sections) (name_index h sections)) InvalidInput
      raw_data bytes table)

-- the names of the sections from 1 up
unfoldable pub names_of : List ℕ → List Section → Part (List (List ℕ))
names_of texts sections = all_good (map (λ s. name_at texts s.name_offset) (drop 1 sections))

-- an image with its header, its section table, and the names of its sections from 1 up
pub record Elf : Type 0 where
  pub image : List ℕ
  pub header : Header
  pub sections : List Section
  pub names : List (List ℕ)

-- the image of some bytes; of header, section table, table of names and names the first that is broken is its mark
unfoldable pub elf_of : List ℕ → Part Elf
elf_of bytes = do
  header ← header_of bytes
  sections ← sections_of bytes header
  texts ← name_table bytes header sections
  names ← names_of texts sections
  Good (record { image = bytes; header = header; sections = sections; names = names })

-- the first section of that name, from 1 up
unfoldable pub section_named : Elf → List ℕ → Option ℕ
section_named elf name = position_from (λ n. bytes_eq n name) 1 elf.names

-- that section itself
unfoldable pub section_called : Elf → List ℕ → Option Section
section_called elf name = option_and_then (slice_get elf.sections) (section_named elf name)

-- the data of the first section of that name, nothing where there is none
unfoldable pub data_named : Elf → List ℕ → Part (List ℕ)
data_named elf name = of (section_called elf name)
  where
    of : Option Section → Part (List ℕ)
    of None = Good []
    of (Some s) = data_of elf.header.format elf.image s

-- a section of that name is there, not NOBITS, and its size is not 0
abbrev pub is_there : Option Section → Bool
is_there None = false
is_there (Some s) = not (is_nobits s) && not (s.size == 0)

abbrev pub holds_bytes : Elf → List ℕ → Bool
holds_bytes elf name = is_there (section_called elf name)

-- ET_REL
abbrev pub is_relocatable : Elf → Bool
is_relocatable elf = elf.header.file_type == ET_REL

-- ---- the same over the bytes of an image

-- the byte order
unfoldable pub image_order : List ℕ → Part ByteOrder
image_order image = do
  header ← header_of image
  Good header.format.order

-- the section table
unfoldable pub image_sections : List ℕ → Part (List Section)
image_sections image = do
  header ← header_of image
  sections_of image header

-- the index of the first section of that name
unfoldable pub image_section : List ℕ → List ℕ → Part (Option ℕ)
image_section image name = do
  elf ← elf_of image
  Good (section_named elf name)

-- the data of the section at an index of the table
unfoldable pub image_section_data : List ℕ → ℕ → Part (List ℕ)
image_section_data image index = do
  header ← header_of image
  sections ← sections_of image header
  section ← or_mark (slice_get sections index) InvalidInput
  data_of header.format image section

-- the data of the first section of that name, nothing where there is none
unfoldable pub image_data_named : List ℕ → List ℕ → Part (List ℕ)
image_data_named image name = do
  elf ← elf_of image
  data_named elf name

unfoldable pub image_holds_bytes : List ℕ → List ℕ → Part Bool
image_holds_bytes image name = do
  elf ← elf_of image
  Good (holds_bytes elf name)

unfoldable pub image_is_relocatable : List ℕ → Part Bool
image_is_relocatable image = do
  elf ← elf_of image
  Good (is_relocatable elf)
