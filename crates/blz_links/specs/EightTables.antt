-- The eight tables of a checksum.
use Rattle.blz_links.specs.ChecksumTables.{IsTable}
use Rattle.blz_links.specs.declared.checksum_tables.ChecksumTables.{ChecksumTables}

pub record AreTables (t : ChecksumTables) : Type 0 where
  pub alone : IsTable 8 t.alone
  pub before_1 : IsTable 16 t.before_1
  pub before_2 : IsTable 24 t.before_2
  pub before_3 : IsTable 32 t.before_3
  pub before_4 : IsTable 40 t.before_4
  pub before_5 : IsTable 48 t.before_5
  pub before_6 : IsTable 56 t.before_6
  pub before_7 : IsTable 64 t.before_7
