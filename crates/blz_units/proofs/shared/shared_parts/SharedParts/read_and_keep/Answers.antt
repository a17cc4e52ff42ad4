use Rattle.blz_info.proofs.Marked.{good_some}
use Rattle.blz_units.proofs.shared.shared_parts.SharedParts.read_and_keep.Goals as goal

pub keep_table-requires-clause-table : goal.keep_table-requires-clause-table
keep_table-requires-clause-table c = good_some _ _ c.in_ok-table.ensures
