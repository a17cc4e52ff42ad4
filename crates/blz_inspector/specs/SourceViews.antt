-- The file that a source asks.
use Rattle.std.specs.Prelude.{string_bytes}
use Rattle.blz_inspector.specs.Entries.{Asked}
use Rattle.blz_inspector.specs.declared.source.Elf.{Elf}
use Rattle.blz_inspector.specs.declared.source.Source.{Source}
use Rattle.blz_inspector.specs.declared.source.Source.TheVariants as source

abbrev pub elf_asked : Elf → Asked
elf_asked elf = record { path = string_bytes elf.path; debug_syms = elf.debug_syms }

abbrev pub asked_of : Source → Asked
asked_of (source.Elf elf) = elf_asked elf
