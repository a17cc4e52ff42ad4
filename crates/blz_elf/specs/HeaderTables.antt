-- The section headers and the program headers of an image, as records (ELF gABI, Sections and Program Header).
use Rattle.std.specs.Prelude.{ℕ, List, length}
use Rattle.blz_model.specs.Part.{Part, Good, ◌>>=◌}
use Rattle.blz_records.specs.declared.class.ElfN.{ElfN}
use Rattle.blz_records.specs.declared.section_header.Elf32_Shdr.{Elf32_Shdr}
use Rattle.blz_records.specs.declared.section_header.Elf64_Shdr.{Elf64_Shdr}
use Rattle.blz_records.specs.declared.program_header.Elf32_Phdr.{Elf32_Phdr}
use Rattle.blz_records.specs.declared.program_header.Elf64_Phdr.{Elf64_Phdr}
use Rattle.blz_records.specs.SectionHeaders.{shdr32, shdr64}
use Rattle.blz_records.specs.ProgramHeaders.{phdr32, phdr64}
use Rattle.blz_image.specs.declared.span.Rows.{Rows}
use Rattle.blz_image.specs.Headers.{Header, header_of}
use Rattle.blz_image.specs.Sections.{sections_of}
use Rattle.blz_image.specs.Segments.{segments_of}
use Rattle.blz_elf.specs.RecordLists.{records_in}

-- the section headers of a table, of 40 bytes in class 32 and of 64 in class 64
abbrev pub section_records : List ℕ → Rows → List (ElfN Elf64_Shdr Elf32_Shdr)
section_records image rows = records_in shdr32 40 shdr64 64 image rows

-- the program headers of a table, of 32 bytes in class 32 and of 56 in class 64
abbrev pub segment_records : List ℕ → Rows → List (ElfN Elf64_Phdr Elf32_Phdr)
segment_records image rows = records_in phdr32 32 phdr64 56 image rows

-- as many as there are sections, from e_shoff on
unfoldable pub section_headers_of : List ℕ → Header → Part (List (ElfN Elf64_Shdr Elf32_Shdr))
section_headers_of image h = do
  sections ← sections_of image h
  Good (section_records image (record { format = h.format; at = h.shoff; count = length sections }))

-- as many as there are segments, from e_phoff on
unfoldable pub program_headers_of : List ℕ → Header → Part (List (ElfN Elf64_Phdr Elf32_Phdr))
program_headers_of image h = do
  segments ← segments_of image h
  Good (segment_records image (record { format = h.format; at = h.phoff; count = length segments }))

-- all section headers of an image, the first one too
unfoldable pub image_section_headers : List ℕ → Part (List (ElfN Elf64_Shdr Elf32_Shdr))
image_section_headers image = do
  header ← header_of image
  section_headers_of image header

-- all program headers of an image
unfoldable pub image_program_headers : List ℕ → Part (List (ElfN Elf64_Phdr Elf32_Phdr))
image_program_headers image = do
  header ← header_of image
  program_headers_of image header
