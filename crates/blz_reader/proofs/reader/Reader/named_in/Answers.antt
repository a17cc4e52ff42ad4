use Rattle.blz_info.specs.Marks.{or_invalid}
use Rattle.blz_reader.specs.Readers.{reader_files, reader_table}
use Rattle.blz_units.specs.UnitAnswers.{unit_functions}
use Rattle.blz_reader.specs.UnitNames.{called_in}
use Rattle.blz_reader.proofs.KeptTold.{repeats_gives}
use Rattle.blz_reader.proofs.ListingSteps.{called_is, called_there}
use Rattle.blz_reader.proofs.reader.Reader.named_in.Goals as goal

pub returns-clause-value : goal.returns-clause-value
returns-clause-value g c =
    let f = reader_files c.args.self.now in
    let t = reader_table c.args.self.now in
    let texts = c.args.self.now.dwarf.now.texts in
    repeats_gives (λ n. n) c.called_in.result (or_invalid (called_in texts c.args.name.now (unit_functions f t c.args.number))) (rw (c.as_slice.ensures.value, called_is texts f t c.fill_functions.new.caches.units.items c.args.name.now c.args.number c.fill_functions.ensures.fills.fillable.fits.units c.in_ok-fill_functions.ensures.filled) at c.called_in.ensures)

pub returns-clause-there : goal.returns-clause-there
returns-clause-there g c = called_there c.args.self.now.dwarf.now.texts c.args.name.now c.fill_functions.new.caches.units.items c.args.number c.called_in.result (rw c.as_slice.ensures.value at c.called_in.ensures)
