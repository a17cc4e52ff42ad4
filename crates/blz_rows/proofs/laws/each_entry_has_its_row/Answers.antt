use Rattle.blz_rows.proofs.EntryRows.{has_row}
use Rattle.blz_rows.proofs.laws.each_entry_has_its_row.Goals as goal

pub returns : goal.returns
returns c = has_row
