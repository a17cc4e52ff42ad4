use Rattle.std.proofs.Common.{◌≡◌, drop}
use Rattle.blz_info.specs.Contents.{section_view}
use Rattle.blz_line.specs.Formats.{values_in, entry_at}
use Rattle.blz_line.proofs.formats.entry_at.Given as goal

abbrev pub invariant-loop-format : goal.invariant-loop-format
invariant-loop-format l = values_in l.encoding (section_view l.section) (drop l.format-index l.formats) l.entry l.offset ≡ entry_at l.encoding (section_view l.section) l.formats l.at
