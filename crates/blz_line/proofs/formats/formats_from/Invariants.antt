use Rattle.std.proofs.Common.{◌≡◌, ◌-◌, []}
use Rattle.blz_line.specs.Formats.{formats_in}
use Rattle.blz_line.proofs.formats.formats_from.Given as goal

abbrev pub invariant-loop : goal.invariant-loop
invariant-loop l = formats_in (l.count - l.counter) l.formats.items l.bytes l.offset ≡ formats_in l.count [] l.bytes l.at
