use Rattle.std.proofs.Common.{None}
use Rattle.blz_info.specs.Marks.{or_invalid}
use Rattle.blz_reader.specs.Readers.{reader_files, reader_table}
use Rattle.blz_units.specs.UnitAnswers.{unit_language}
use Rattle.blz_reader.proofs.KeptTold.{language_is, repeats_gives}
use Rattle.blz_reader.proofs.reader.Reader.language.Goals as goal

pub returns-clause-value : goal.returns-clause-value
returns-clause-value c =
    let f = reader_files c.args.self.now in
    let t = reader_table c.args.self.now in
    repeats_gives (λ l. l) c.language_of.result (or_invalid (unit_language f t c.args.number)) (rw (c.as_slice.ensures.value, language_is f t c.fill_root.new.caches.units.items c.args.number (c.fill_root.ensures.fills None).fillable.fits.units c.in_ok-fill_root.ensures.filled) at c.language_of.ensures)
