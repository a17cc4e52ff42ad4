use Rattle.std.proofs.Common.{Err, refl}
use Rattle.blz_info.specs.Marks.{or_invalid}
use Rattle.blz_units.specs.KeptParts.{functions_at, lists_view}
use Rattle.blz_functions.specs.FunctionRanges.{FunctionRanges}
use Rattle.blz_reader.specs.Readers.{reader_files, reader_table}
use Rattle.blz_units.specs.UnitAnswers.{unit_functions}
use Rattle.blz_reader.proofs.KeptTold.{no_functions, told_gives}
use Rattle.blz_reader.proofs.reader.Reader.show_unit.Goals as goal

pub returns-in-Err-clause-shows : goal.returns-in-Err-clause-shows
returns-in-Err-clause-shows g c =
    let f = reader_files c.args.self.now in
    let t = reader_table c.args.self.now in
    let units = c.fill_functions.new.caches.units.items in
    record {
      goes_on = c.requires.goes_on;
      same = refl;
      mark = told_gives (λ (x : FunctionRanges). x) lists_view (functions_at units c.args.number) (or_invalid (unit_functions f t c.args.number)) (Err c.in-Err.fault) ((c.fill_functions.ensures.fills.fillable.fits.units.each c.args.number).functions) (no_functions f t units c.args.number c.fill_functions.ensures.fills.fillable.fits.units c.in_ok-fill_functions.ensures.filled) (rw c.as_slice.ensures.value at c.in-Err.ensures);
    }
