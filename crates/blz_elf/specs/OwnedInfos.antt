-- An info that owns its texts, as an info.
use Rattle.blz_elf.specs.declared.sym_info.SymInfoBuf.{SymInfoBuf}
use Rattle.blz_elf.specs.Infos.{Info}

abbrev pub owned_view : SymInfoBuf → Info
owned_view s = record {
  name = s.name;
  addr = s.addr;
  size = s.size;
  sym_type = s.sym_type;
  file_offset = s.file_offset;
  module_name = s.module;
}
