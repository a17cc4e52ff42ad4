-- Section headers (ELF gABI, Section Header Table).
use Rattle.std.specs.Prelude.{ℕ, List}
use Rattle.blz_model.specs.declared.byte_order.ByteOrder.{ByteOrder}
use Rattle.blz_model.specs.Numbers.{field}
use Rattle.blz_records.specs.declared.section_header.Elf32_Shdr.{Elf32_Shdr}
use Rattle.blz_records.specs.declared.section_header.Elf64_Shdr.{Elf64_Shdr}

-- 40 bytes of class 32
abbrev pub shdr32 : ByteOrder → List ℕ → Elf32_Shdr
shdr32 order bytes = record {
  sh_name = field order bytes 0 4;
  sh_type = field order bytes 4 4;
  sh_flags = field order bytes 8 4;
  sh_addr = field order bytes 12 4;
  sh_offset = field order bytes 16 4;
  sh_size = field order bytes 20 4;
  sh_link = field order bytes 24 4;
  sh_info = field order bytes 28 4;
  sh_addralign = field order bytes 32 4;
  sh_entsize = field order bytes 36 4;
}

-- 64 bytes of class 64
abbrev pub shdr64 : ByteOrder → List ℕ → Elf64_Shdr
shdr64 order bytes = record {
  sh_name = field order bytes 0 4;
  sh_type = field order bytes 4 4;
  sh_flags = field order bytes 8 8;
  sh_addr = field order bytes 16 8;
  sh_offset = field order bytes 24 8;
  sh_size = field order bytes 32 8;
  sh_link = field order bytes 40 4;
  sh_info = field order bytes 44 4;
  sh_addralign = field order bytes 48 8;
  sh_entsize = field order bytes 56 8;
}

-- the same numbers in class 64
abbrev pub wide_shdr : Elf32_Shdr → Elf64_Shdr
wide_shdr narrow = record {
  sh_name = narrow.sh_name;
  sh_type = narrow.sh_type;
  sh_flags = narrow.sh_flags;
  sh_addr = narrow.sh_addr;
  sh_offset = narrow.sh_offset;
  sh_size = narrow.sh_size;
  sh_link = narrow.sh_link;
  sh_info = narrow.sh_info;
  sh_addralign = narrow.sh_addralign;
  sh_entsize = narrow.sh_entsize;
}
