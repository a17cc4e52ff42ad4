use Rattle.std.proofs.Common.{◌≡◌, ◌-◌, []}
use Rattle.blz_info.specs.Contents.{section_view}
use Rattle.blz_line.specs.Formats.{entries_in}
use Rattle.blz_line.proofs.formats.entries_at.Given as goal

abbrev pub invariant-loop : goal.invariant-loop
invariant-loop l = entries_in l.encoding (section_view l.section) l.formats (l.count - l.counter) l.table l.offset ≡ entries_in l.encoding (section_view l.section) l.formats l.count [] l.at
