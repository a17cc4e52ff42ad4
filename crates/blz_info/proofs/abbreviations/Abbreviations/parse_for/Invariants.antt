use Rattle.std.proofs.Common.{◌≡◌, ◌-◌, length}
use Rattle.blz_info.specs.AbbreviationTables.{table_in, abbreviations}
use Rattle.blz_info.proofs.abbreviations.Abbreviations.parse_for.Given as goal

abbrev pub invariant-loop : goal.invariant-loop
invariant-loop l = table_in (length l.abbrev - l.counter) l.table l.abbrev l.place ≡ abbreviations l.abbrev l.at
