use Rattle.std.proofs.Common.{◌≡◌}
use Rattle.blz_units.specs.BuiltUnits.{built_view}
use Rattle.blz_functions.specs.Opened.{open_view}
use Rattle.blz_units.specs.UnitAnswers.{read_unit}
use Rattle.blz_reader.specs.Readers.{reader_files, reader_table}
use Rattle.blz_reader.proofs.AmongUnits.{lists_among}
use Rattle.blz_reader.proofs.reader.Reader.functions_of.Goals as goal

pub returns-clause-value : goal.returns-clause-value
returns-clause-value c =
    let f = reader_files c.args.self.now in
    let t = reader_table c.args.self.now in
    lists_among (λ l. l) c.read-lists.result c.new-links.result (open_view c.open_in-open.result) (built_view f c.args.unit.now) f t (rw c.lent-dwarf.ensures at c.new-links.ensures) (rw c.lent-dwarf.ensures at c.open_in-open.ensures.view) c.read-lists.ensures.value

pub returns-clause-fits : goal.returns-clause-fits
returns-clause-fits c =
    let same : c.read-lists.new.links ≡ c.new-links.result = c.read-lists.ensures.same in
    rw (same, c.new-links.ensures, c.lent-dwarf.ensures) at c.into_built.ensures

pub new-links-requires-clause-is : goal.new-links-requires-clause-is
unfolding read_unit
new-links-requires-clause-is c = rw (c.open_in-open.ensures.view, c.lent-dwarf.ensures) c.requires.is
