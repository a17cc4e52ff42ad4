use Rattle.std.proofs.Common.{◌≡◌, ◌-◌, length, []}
use Rattle.blz_info.specs.AbbreviationTables.{specs_in}
use Rattle.blz_info.proofs.abbreviations.specs_at.Given as goal

abbrev pub invariant-loop : goal.invariant-loop
invariant-loop l = specs_in (length l.bytes - l.counter) l.specs.items l.bytes l.place ≡ specs_in (length l.bytes) [] l.bytes l.at
