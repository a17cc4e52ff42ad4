use Rattle.blz_info.specs.Marks.{or_invalid}
use Rattle.blz_reader.specs.Readers.{reader_files, reader_table}
use Rattle.blz_units.specs.UnitAnswers.{best_function}
use Rattle.blz_reader.proofs.KeptTold.{best_is, repeats_gives, value_is}
use Rattle.blz_reader.proofs.reader.Reader.function_in.Goals as goal

pub returns-clause-value : goal.returns-clause-value
returns-clause-value g c =
    let f = reader_files c.args.self.now in
    let t = reader_table c.args.self.now in
    repeats_gives (λ n. n) c.function_at.result (or_invalid (best_function f t c.args.addr c.args.number)) (rw (c.as_slice.ensures.value, best_is f t c.fill_functions.new.caches.units.items c.args.addr c.args.number c.fill_functions.ensures.fills.fillable.fits.units c.in_ok-fill_functions.ensures.filled) at c.function_at.ensures.value)

pub returns-clause-there : goal.returns-clause-there
returns-clause-there g c = value_is c.fill_functions.new.caches.units.items c.args.addr c.args.number c.function_at.result (rw c.as_slice.ensures.value at c.function_at.ensures.value)
