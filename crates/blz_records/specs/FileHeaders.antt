-- File headers (ELF gABI, ELF Header).
use Rattle.std.specs.Prelude.{ℕ, List, slice_range}
use Rattle.blz_model.specs.declared.byte_order.ByteOrder.{ByteOrder}
use Rattle.blz_model.specs.Numbers.{field}
use Rattle.blz_records.specs.declared.file_header.Elf32_Ehdr.{Elf32_Ehdr}
use Rattle.blz_records.specs.declared.file_header.Elf64_Ehdr.{Elf64_Ehdr}

-- 52 bytes of class 32
abbrev pub ehdr32 : ByteOrder → List ℕ → Elf32_Ehdr
ehdr32 order bytes = record {
  e_ident = slice_range bytes 0 16;
  e_type = field order bytes 16 2;
  e_machine = field order bytes 18 2;
  e_version = field order bytes 20 4;
  e_entry = field order bytes 24 4;
  e_phoff = field order bytes 28 4;
  e_shoff = field order bytes 32 4;
  e_flags = field order bytes 36 4;
  e_ehsize = field order bytes 40 2;
  e_phentsize = field order bytes 42 2;
  e_phnum = field order bytes 44 2;
  e_shentsize = field order bytes 46 2;
  e_shnum = field order bytes 48 2;
  e_shstrndx = field order bytes 50 2;
}

-- 64 bytes of class 64
abbrev pub ehdr64 : ByteOrder → List ℕ → Elf64_Ehdr
ehdr64 order bytes = record {
  e_ident = slice_range bytes 0 16;
  e_type = field order bytes 16 2;
  e_machine = field order bytes 18 2;
  e_version = field order bytes 20 4;
  e_entry = field order bytes 24 8;
  e_phoff = field order bytes 32 8;
  e_shoff = field order bytes 40 8;
  e_flags = field order bytes 48 4;
  e_ehsize = field order bytes 52 2;
  e_phentsize = field order bytes 54 2;
  e_phnum = field order bytes 56 2;
  e_shentsize = field order bytes 58 2;
  e_shnum = field order bytes 60 2;
  e_shstrndx = field order bytes 62 2;
}
