-- The sections that a split unit is read from.
use Rattle.std.specs.Prelude.{ℕ, ◌+◌, true, List, slice_range}
use Rattle.blz_relocations.specs.Relocations.{OffsetMap}
use Rattle.blz_info.specs.Contents.{Contents}
use Rattle.blz_info.specs.FileSections.{FileSections}
use Rattle.blz_split.specs.declared.split_unit.Piece.{Piece}
use Rattle.blz_split.specs.declared.split_unit.SplitUnit.{SplitUnit}
use Rattle.blz_split.specs.PackageParts.{PackageParts}

-- a section of a package, which is never relocated
abbrev pub packed : PackageParts → OffsetMap → List ℕ → Contents
packed p none bytes = record { bytes = bytes; relocations = none; order = p.order }

-- the bytes of a contribution, of those of its section
abbrev pub piece_of : List ℕ → Piece → List ℕ
piece_of bytes piece = slice_range bytes piece.start (piece.start + piece.len)

-- The sections of a split unit: its pieces, the strings of the whole package, and the addresses, the ranges of versions
-- 2 to 4 and the further strings of the main file.
abbrev pub split_sections : PackageParts → SplitUnit → FileSections → OffsetMap → FileSections
split_sections p u main none = record {
  «abbrev» = packed p none (piece_of p.«abbrev» u.«abbrev»);
  addr = main.addr;
  aranges = main.aranges;
  info = packed p none (piece_of p.info u.info);
  line = main.line;
  line_str = main.line_str;
  ranges = main.ranges;
  rnglists = packed p none (piece_of p.rnglists u.rnglists);
  strings = packed p none p.strings;
  str_offsets = packed p none (piece_of p.str_offsets u.str_offsets);
  sup_strings = main.sup_strings;
  shift = u.info.start;
  split = true;
  sup = main.sup;
}
