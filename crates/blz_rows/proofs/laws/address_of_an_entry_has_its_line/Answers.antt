use Rattle.blz_rows.proofs.EntryLines.{entry_line}
use Rattle.blz_rows.proofs.laws.address_of_an_entry_has_its_line.Goals as goal

pub returns : goal.returns
returns c = entry_line
