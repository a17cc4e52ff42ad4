use Rattle.std.proofs.Common.{Some}
use Rattle.std.specs.Option.{option_map}
use Rattle.blz_line.specs.Lookups.{location_view}
use Rattle.blz_reader.specs.Readers.{reader_files, reader_table}
use Rattle.blz_units.specs.UnitAnswers.{unit_lines}
use Rattle.blz_units.specs.UnitSites.{call_site}
use Rattle.blz_reader.proofs.KeptTold.{site_is, repeats_gives}
use Rattle.blz_reader.proofs.reader.Reader.site_in.Goals as goal

pub returns-clause-value : goal.returns-clause-value
returns-clause-value g c =
    let f = reader_files c.args.self.now in
    let t = reader_table c.args.self.now in
    let texts = c.args.self.now.dwarf.now.texts in
    repeats_gives (λ o. option_map location_view o) c.site_at.result (call_site texts (unit_lines f t c.args.number) c.args.call.now (Some c.args.file)) (rw (c.as_slice.ensures.value, site_is texts f t c.fill_lines.new.caches.units.items c.args.number c.args.file c.args.call.now c.fill_lines.ensures.fills.fillable.fits.units c.in_ok-fill_lines.ensures.filled) at c.site_at.ensures)
