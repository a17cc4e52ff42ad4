use Rattle.blz_reader.specs.Readers.{reader_files, reader_table}
use Rattle.blz_reader.proofs.ListingSteps.{listed_good, listed_mark}
use Rattle.blz_reader.proofs.LentParts.{good_value}
use Rattle.blz_reader.proofs.reader.Reader.list_functions.Goals as goal

pub returns-in-Ok-clause-value : goal.returns-in-Ok-clause-value
returns-in-Ok-clause-value g c =
    listed_good (reader_files c.args.self.now) (reader_table c.args.self.now) c.fill_functions.new.caches.units.items c.args.number c.fill_functions.ensures.fills.fillable.fits.units c.in_ok-fill_functions.ensures.filled _ (rw c.as_slice.ensures.value at c.in-Ok.ensures)

pub returns-in-Err-clause-value : goal.returns-in-Err-clause-value
returns-in-Err-clause-value g c =
    listed_mark (reader_files c.args.self.now) (reader_table c.args.self.now) c.fill_functions.new.caches.units.items c.args.number c.fill_functions.ensures.fills.fillable.fits.units c.in_ok-fill_functions.ensures.filled c.in-Err.fault (rw c.as_slice.ensures.value at c.in-Err.ensures)

pub returns-in-Ok-clause-there : goal.returns-in-Ok-clause-there
returns-in-Ok-clause-there g c = good_value _ _ (rw c.as_slice.ensures.value at c.in-Ok.ensures)
