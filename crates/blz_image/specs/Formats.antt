-- How the records of an image are laid out: by its class and byte order (ELF gABI, Data Representation).
use Rattle.std.specs.Prelude.{ℕ, ◌+◌, ◌*◌, List, Option, Some, None, ◌==◌, if◌then◌else◌}
use Rattle.blz_constants.specs.declared.elf.TheConstants.{ELFCLASS32, ELFCLASS64, ELFDATA2LSB, ELFDATA2MSB}
use Rattle.blz_model.specs.declared.byte_order.ByteOrder.{ByteOrder}
use Rattle.blz_model.specs.declared.byte_order.ByteOrder.TheVariants.{Little, Big}
use Rattle.blz_model.specs.Numbers.{field}
use Rattle.blz_image.specs.declared.format.Class.{Class}
use Rattle.blz_image.specs.declared.format.Class.TheVariants.{Elf32, Elf64}
use Rattle.blz_image.specs.declared.format.Format.{Format}

-- ELFCLASS32 and ELFCLASS64
abbrev pub class_of : ℕ → Option Class
class_of byte = if byte == ELFCLASS32 then Some Elf32 else (if byte == ELFCLASS64 then Some Elf64 else None)

-- ELFDATA2LSB and ELFDATA2MSB
abbrev pub order_of : ℕ → Option ByteOrder
order_of byte = if byte == ELFDATA2LSB then Some Little else (if byte == ELFDATA2MSB then Some Big else None)

-- the bytes of an address, an offset or a size: a word
abbrev pub word : Class → ℕ
word Elf32 = 4
word Elf64 = 8

-- the bytes of a header: 52 and 64
abbrev pub header_size : Class → ℕ
header_size c = 40 + 3 * word c

-- of a section header: 40 and 64
abbrev pub section_size : Class → ℕ
section_size c = 16 + 6 * word c

-- of a program header: 32 and 56
abbrev pub segment_size : Class → ℕ
segment_size c = 8 + 6 * word c

-- of a symbol: 16 and 24
abbrev pub symbol_size : Class → ℕ
symbol_size c = 8 + 2 * word c

-- of a relocation with an addend: 12 and 24
abbrev pub rela_size : Class → ℕ
rela_size c = 3 * word c

-- of one without: 8 and 16
abbrev pub rel_size : Class → ℕ
rel_size c = 2 * word c

-- of a compression header: 12 and 24
abbrev pub compression_size : Class → ℕ
compression_size c = 3 * word c

-- the word at a place
abbrev pub word_at : Format → List ℕ → ℕ → ℕ
word_at f bytes at = field f.order bytes at (word f.class)
