use Rattle.blz_error.specs.declared.kind.ErrorKind.TheVariants.{InvalidDwarf}
use Rattle.blz_split.specs.Contributions.{index_tables}
use Rattle.blz_split.proofs.IndexRows.{rows_count, tables_there}
use Rattle.blz_split.proofs.package.Package.find_by.Goals as goal

pub unit_of_row-requires-clause-row : goal.unit_of_row-requires-clause-row
unit_of_row-requires-clause-row c =
    let t = c.in_ok-tables.tables in
    rw c.get.ensures (rows_count c.args.self.now.order c.args.self.now.index.now t t.slots 0 c.args.id c.args.rows.now.rows (c.requires t (tables_there (index_tables c.args.self.now.order c.args.self.now.index.now) t InvalidDwarf c.in_ok-tables.ensures.value)))
