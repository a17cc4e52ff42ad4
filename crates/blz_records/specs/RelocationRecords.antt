-- Relocations (ELF gABI, Relocation).
use Rattle.std.specs.Prelude.{ℕ, List}
use Rattle.std.specs.Int.{w32, w64, cast_signed}
use Rattle.blz_model.specs.declared.byte_order.ByteOrder.{ByteOrder}
use Rattle.blz_model.specs.Numbers.{field}
use Rattle.blz_records.specs.declared.relocation.Elf32_Rela.{Elf32_Rela}
use Rattle.blz_records.specs.declared.relocation.Elf64_Rela.{Elf64_Rela}
use Rattle.blz_records.specs.declared.relocation.Elf32_Rel.{Elf32_Rel}
use Rattle.blz_records.specs.declared.relocation.Elf64_Rel.{Elf64_Rel}

-- 12 bytes of class 32
abbrev pub rela32 : ByteOrder → List ℕ → Elf32_Rela
rela32 order bytes = record {
  r_offset = field order bytes 0 4;
  r_info = field order bytes 4 4;
  r_addend = cast_signed w32 (field order bytes 8 4);
}

-- 24 bytes of class 64
abbrev pub rela64 : ByteOrder → List ℕ → Elf64_Rela
rela64 order bytes = record {
  r_offset = field order bytes 0 8;
  r_info = field order bytes 8 8;
  r_addend = cast_signed w64 (field order bytes 16 8);
}

-- the same numbers in class 64
abbrev pub wide_rela : Elf32_Rela → Elf64_Rela
wide_rela narrow = record {
  r_offset = narrow.r_offset;
  r_info = narrow.r_info;
  r_addend = narrow.r_addend;
}

-- 8 bytes of class 32
abbrev pub rel32 : ByteOrder → List ℕ → Elf32_Rel
rel32 order bytes = record {
  r_offset = field order bytes 0 4;
  r_info = field order bytes 4 4;
}

-- 16 bytes of class 64
abbrev pub rel64 : ByteOrder → List ℕ → Elf64_Rel
rel64 order bytes = record {
  r_offset = field order bytes 0 8;
  r_info = field order bytes 8 8;
}

-- the same numbers in class 64
abbrev pub wide_rel : Elf32_Rel → Elf64_Rel
wide_rel narrow = record {
  r_offset = narrow.r_offset;
  r_info = narrow.r_info;
}
