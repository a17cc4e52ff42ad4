-- The build id of an image: in its sections of type SHT_NOTE, else in its segments of type PT_NOTE (ELF gABI, Note
-- Section).
use Rattle.std.specs.Prelude.{ℕ, ◌+◌, ◌==◌, List, [], ◌∷◌, length, map, slice_range, nat_le, Option, Some, None, if◌then◌else◌}
use Rattle.blz_constants.specs.declared.elf.TheConstants.{PT_NOTE, SHT_NOTE}
use Rattle.blz_error.specs.declared.kind.ErrorKind.TheVariants.{InvalidData}
use Rattle.blz_model.specs.declared.byte_order.ByteOrder.{ByteOrder}
use Rattle.blz_model.specs.Part.{Part, Good, Broken, ◌>>=◌}
use Rattle.blz_records.specs.Classes.{by_class}
use Rattle.blz_records.specs.declared.class.ElfN.{ElfN}
use Rattle.blz_records.specs.declared.section_header.Elf32_Shdr.{Elf32_Shdr}
use Rattle.blz_records.specs.declared.section_header.Elf64_Shdr.{Elf64_Shdr}
use Rattle.blz_records.specs.declared.program_header.Elf32_Phdr.{Elf32_Phdr}
use Rattle.blz_records.specs.declared.program_header.Elf64_Phdr.{Elf64_Phdr}
use Rattle.blz_elf.specs.HeaderTables.{image_program_headers, image_section_headers}
use Rattle.blz_image.specs.Images.{image_order}
use Rattle.blz_links.specs.LinkReads.{found}
use Rattle.blz_links.specs.Notes.{notes_of, build_id_among}

-- where some bytes of an image begin, and how many they are
abbrev pub Extent : Type 0
Extent = ℕ × ℕ

-- the bytes of a section of notes, and nothing of another
abbrev pub section_notes : ElfN Elf64_Shdr Elf32_Shdr → Option Extent
section_notes s =
    if by_class (λ r. r.sh_type) (λ r. r.sh_type) s == SHT_NOTE
    then Some (by_class (λ r. r.sh_offset) (λ r. r.sh_offset) s, by_class (λ r. r.sh_size) (λ r. r.sh_size) s)
    else None

-- the bytes of a segment of notes, and nothing of another
abbrev pub segment_notes : ElfN Elf64_Phdr Elf32_Phdr → Option Extent
segment_notes s =
    if by_class (λ r. r.p_type) (λ r. r.p_type) s == PT_NOTE
    then Some (by_class (λ r. r.p_offset) (λ r. r.p_offset) s, by_class (λ r. r.p_filesz) (λ r. r.p_filesz) s)
    else None

-- the build id in some bytes of an image, all of which have to be there
abbrev pub extent_build_id : ByteOrder → List ℕ → Option Extent → Part (Option (List ℕ))
extent_build_id order image None = Good None
extent_build_id order image (Some e) =
    if nat_le (e.0 + e.1) (length image)
    then Good (build_id_among (notes_of order (slice_range image e.0 (e.0 + e.1))))
    else Broken InvalidData

-- the first that is found; what comes after it is not read
abbrev pub or_later : {A : Type 0} → Option A → Part (Option A) → Part (Option A)
or_later None later = later
or_later (Some x) later = Good (Some x)

-- the build id of the first of some bytes of an image that have one
unfoldable pub first_build_id : ByteOrder → List ℕ → List (Option Extent) → Part (Option (List ℕ))
first_build_id order image [] = Good None
first_build_id order image (e ∷ extents) =
    extent_build_id order image e >>= λ id. or_later id (first_build_id order image extents)

-- over the segments
unfoldable pub segments_build_id : ByteOrder → List ℕ → Part (Option (List ℕ))
segments_build_id order image = do
  segments ← image_program_headers image
  first_build_id order image (map segment_notes segments)

-- over the sections, and over the segments where these have none
unfoldable pub image_build_id : List ℕ → Part (Option (List ℕ))
image_build_id image = do
  order ← image_order image
  sections ← image_section_headers image
  id ← first_build_id order image (map section_notes sections)
  or_later id (segments_build_id order image)

-- An image has no build id where header, a table or notes are broken before one is found.
abbrev pub build_id_of : List ℕ → Option (List ℕ)
build_id_of image = found (image_build_id image)
