-- The header of an image (ELF gABI, ELF Header).
use Rattle.std.specs.Prelude.{ℕ, ◌+◌, ◌*◌, Bool, ◌&&◌, List, length, slice_index, nat_le, ◌==◌}
use Rattle.blz_constants.specs.declared.elf.TheConstants.{EI_CLASS, EI_DATA, ELFMAG0, ELFMAG1, ELFMAG2, ELFMAG3}
use Rattle.blz_error.specs.declared.kind.ErrorKind.TheVariants.{InvalidData, Unsupported}
use Rattle.blz_model.specs.Numbers.{field}
use Rattle.blz_model.specs.Part.{Part, Good, ◌>>=◌, or_mark, check}
use Rattle.blz_image.specs.declared.format.Format.{Format}
use Rattle.blz_image.specs.Formats.{class_of, order_of, word, header_size, word_at}

-- class and byte order, and the fields e_type, e_phoff, e_shoff, e_phnum, e_shnum and e_shstrndx
pub record Header : Type 0 where
  pub format : Format
  pub file_type : ℕ
  pub phoff : ℕ
  pub shoff : ℕ
  pub phnum : ℕ
  pub shnum : ℕ
  pub shstrndx : ℕ

-- 7f 45 4c 46
abbrev pub has_magic : List ℕ → Bool
has_magic bytes = (slice_index bytes 0 == ELFMAG0) && (slice_index bytes 1 == ELFMAG1) && (slice_index bytes 2 == ELFMAG2) && (slice_index bytes 3 == ELFMAG3)

-- the fields by their offsets, which depend on the class
abbrev pub header_at : Format → List ℕ → Header
header_at f bytes = record {
  format = f;
  file_type = field f.order bytes 16 2;
  phoff = word_at f bytes (24 + word f.class);
  shoff = word_at f bytes (24 + 2 * word f.class);
  phnum = field f.order bytes (32 + 3 * word f.class) 2;
  shnum = field f.order bytes (36 + 3 * word f.class) 2;
  shstrndx = field f.order bytes (38 + 3 * word f.class) 2;
}

-- The header of an image: InvalidData where it is cut short or no ELF, Unsupported for an unknown class or byte order.
unfoldable pub header_of : List ℕ → Part Header
header_of bytes = do
  identified ← check (nat_le 16 (length bytes)) InvalidData
  magic ← check (has_magic bytes) InvalidData
  class ← or_mark (class_of (slice_index bytes EI_CLASS)) Unsupported
  order ← or_mark (order_of (slice_index bytes EI_DATA)) Unsupported
  whole ← check (nat_le (header_size class) (length bytes)) InvalidData
  Good (header_at (record { class = class; order = order }) bytes)
