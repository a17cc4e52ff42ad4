-- Symbols (ELF gABI, Symbol Table).
use Rattle.std.specs.Prelude.{ℕ, List, slice_index}
use Rattle.blz_model.specs.declared.byte_order.ByteOrder.{ByteOrder}
use Rattle.blz_model.specs.Numbers.{field}
use Rattle.blz_records.specs.declared.symbol.Elf32_Sym.{Elf32_Sym}
use Rattle.blz_records.specs.declared.symbol.Elf64_Sym.{Elf64_Sym}

-- 16 bytes of class 32
abbrev pub sym32 : ByteOrder → List ℕ → Elf32_Sym
sym32 order bytes = record {
  st_name = field order bytes 0 4;
  st_value = field order bytes 4 4;
  st_size = field order bytes 8 4;
  st_info = slice_index bytes 12;
  st_other = slice_index bytes 13;
  st_shndx = field order bytes 14 2;
}

-- 24 bytes of class 64
abbrev pub sym64 : ByteOrder → List ℕ → Elf64_Sym
sym64 order bytes = record {
  st_name = field order bytes 0 4;
  st_info = slice_index bytes 4;
  st_other = slice_index bytes 5;
  st_shndx = field order bytes 6 2;
  st_value = field order bytes 8 8;
  st_size = field order bytes 16 8;
}

-- the same numbers in class 64
abbrev pub wide_sym : Elf32_Sym → Elf64_Sym
wide_sym narrow = record {
  st_name = narrow.st_name;
  st_info = narrow.st_info;
  st_other = narrow.st_other;
  st_shndx = narrow.st_shndx;
  st_value = narrow.st_value;
  st_size = narrow.st_size;
}
