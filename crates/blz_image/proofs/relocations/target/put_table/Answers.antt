use Rattle.blz_image.specs.EntryPlaces.{entries_in}
use Rattle.blz_image.specs.Places.{symbols_in}
use Rattle.blz_image.specs.ReadPlaces.{is_known}
use Rattle.blz_image.specs.RelocationTables.{entry_size}
use Rattle.blz_image.specs.TargetTables.{beneath}
use Rattle.blz_image.proofs.ReadRuns.{all_read-beneath, table_known}
use Rattle.blz_image.proofs.relocations.target.put_table.Goals as goal

pub returns-in_ok-note_read-clause-read : goal.returns-in_ok-note_read-clause-read
returns-in_ok-note_read-clause-read c =
    let t = c.args.table.now in
    let symbols = symbols_in c.args.image.now t.symbols in
    let noted = rw c.entry_size-size.ensures.value at c.in_ok-note_read.ensures in
    rw c.in_ok-put_unread.ensures (noted (is_known t.entries.format c.args.image.now (beneath symbols (entries_in t.kind c.args.image.now t.entries) c.args.map.now))
    (all_read-beneath symbols (entries_in t.kind c.args.image.now t.entries) t.entries.format c.args.image.now c.args.map.now (entry_size t.kind t.entries.format.class) c.args.read.now c.requires.read)
    (λ k lt. table_known symbols t.kind c.args.image.now t.entries c.args.map.now k lt))

pub returns-in_default-clause-read : goal.returns-in_default-clause-read
returns-in_default-clause-read c =
    let t = c.args.table.now in
    rw c.in_ok-put_unread.ensures (all_read-beneath (symbols_in c.args.image.now t.symbols) (entries_in t.kind c.args.image.now t.entries) t.entries.format c.args.image.now c.args.map.now (entry_size t.kind t.entries.format.class) c.args.read.now c.requires.read)
