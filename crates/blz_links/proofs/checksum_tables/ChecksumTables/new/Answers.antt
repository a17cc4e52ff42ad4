use Rattle.std.proofs.Common.{refl}
use Rattle.blz_links.proofs.ChecksumLemmas.{IsTable-later}
use Rattle.blz_links.proofs.checksum_tables.ChecksumTables.new.Goals as goal

pub returns : goal.returns
returns c =
    let t0 = c.first_table-alone.ensures in
    let t1 = IsTable-later 8 16 c.first_table-alone.result c.next_table-before_1.result refl t0 c.next_table-before_1.ensures in
    let t2 = IsTable-later 16 24 c.next_table-before_1.result c.next_table-before_2.result refl t1 c.next_table-before_2.ensures in
    let t3 = IsTable-later 24 32 c.next_table-before_2.result c.next_table-before_3.result refl t2 c.next_table-before_3.ensures in
    let t4 = IsTable-later 32 40 c.next_table-before_3.result c.next_table-before_4.result refl t3 c.next_table-before_4.ensures in
    let t5 = IsTable-later 40 48 c.next_table-before_4.result c.next_table-before_5.result refl t4 c.next_table-before_5.ensures in
    let t6 = IsTable-later 48 56 c.next_table-before_5.result c.next_table-before_6.result refl t5 c.next_table-before_6.ensures in
    let t7 = IsTable-later 56 64 c.next_table-before_6.result c.next_table-before_7.result refl t6 c.next_table-before_7.ensures in
    record { alone = t0; before_1 = t1; before_2 = t2; before_3 = t3; before_4 = t4; before_5 = t5; before_6 = t6; before_7 = t7 }
