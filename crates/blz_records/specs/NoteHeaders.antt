-- Headers of notes (ELF gABI, Note Section).
use Rattle.std.specs.Prelude.{ℕ, List}
use Rattle.blz_model.specs.declared.byte_order.ByteOrder.{ByteOrder}
use Rattle.blz_model.specs.Numbers.{field}
use Rattle.blz_records.specs.declared.note.Elf32_Nhdr.{Elf32_Nhdr}
use Rattle.blz_records.specs.declared.note.Elf64_Nhdr.{Elf64_Nhdr}

-- 12 bytes of class 32
abbrev pub nhdr32 : ByteOrder → List ℕ → Elf32_Nhdr
nhdr32 order bytes = record {
  n_namesz = field order bytes 0 4;
  n_descsz = field order bytes 4 4;
  n_type = field order bytes 8 4;
}

-- 12 bytes of class 64
abbrev pub nhdr64 : ByteOrder → List ℕ → Elf64_Nhdr
nhdr64 order bytes = record {
  n_namesz = field order bytes 0 4;
  n_descsz = field order bytes 4 4;
  n_type = field order bytes 8 4;
}
