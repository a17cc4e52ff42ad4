-- Program headers (ELF gABI, Program Header).
use Rattle.std.specs.Prelude.{ℕ, List}
use Rattle.blz_model.specs.declared.byte_order.ByteOrder.{ByteOrder}
use Rattle.blz_model.specs.Numbers.{field}
use Rattle.blz_records.specs.declared.program_header.Elf32_Phdr.{Elf32_Phdr}
use Rattle.blz_records.specs.declared.program_header.Elf64_Phdr.{Elf64_Phdr}

-- 32 bytes of class 32
abbrev pub phdr32 : ByteOrder → List ℕ → Elf32_Phdr
phdr32 order bytes = record {
  p_type = field order bytes 0 4;
  p_offset = field order bytes 4 4;
  p_vaddr = field order bytes 8 4;
  p_paddr = field order bytes 12 4;
  p_filesz = field order bytes 16 4;
  p_memsz = field order bytes 20 4;
  p_flags = field order bytes 24 4;
  p_align = field order bytes 28 4;
}

-- 56 bytes of class 64
abbrev pub phdr64 : ByteOrder → List ℕ → Elf64_Phdr
phdr64 order bytes = record {
  p_type = field order bytes 0 4;
  p_flags = field order bytes 4 4;
  p_offset = field order bytes 8 8;
  p_vaddr = field order bytes 16 8;
  p_paddr = field order bytes 24 8;
  p_filesz = field order bytes 32 8;
  p_memsz = field order bytes 40 8;
  p_align = field order bytes 48 8;
}

-- the same numbers in class 64
abbrev pub wide_phdr : Elf32_Phdr → Elf64_Phdr
wide_phdr narrow = record {
  p_type = narrow.p_type;
  p_flags = narrow.p_flags;
  p_offset = narrow.p_offset;
  p_vaddr = narrow.p_vaddr;
  p_paddr = narrow.p_paddr;
  p_filesz = narrow.p_filesz;
  p_memsz = narrow.p_memsz;
  p_align = narrow.p_align;
}
