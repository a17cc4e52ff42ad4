-- Headers of compressed sections (ELF gABI, Compression Header).
use Rattle.std.specs.Prelude.{ℕ, List}
use Rattle.blz_model.specs.declared.byte_order.ByteOrder.{ByteOrder}
use Rattle.blz_model.specs.Numbers.{field}
use Rattle.blz_records.specs.declared.compression.Elf32_Chdr.{Elf32_Chdr}
use Rattle.blz_records.specs.declared.compression.Elf64_Chdr.{Elf64_Chdr}

-- 12 bytes of class 32
abbrev pub chdr32 : ByteOrder → List ℕ → Elf32_Chdr
chdr32 order bytes = record {
  ch_type = field order bytes 0 4;
  ch_size = field order bytes 4 4;
  ch_addralign = field order bytes 8 4;
}

-- 24 bytes of class 64
abbrev pub chdr64 : ByteOrder → List ℕ → Elf64_Chdr
chdr64 order bytes = record {
  ch_type = field order bytes 0 4;
  ch_reserved = field order bytes 4 4;
  ch_size = field order bytes 8 8;
  ch_addralign = field order bytes 16 8;
}
