use Rattle.std.specs.Option.{option_map}
use Rattle.blz_line.specs.Lookups.{location_view}
use Rattle.blz_reader.specs.Readers.{reader_files, reader_table}
use Rattle.blz_units.specs.UnitSites.{line_in}
use Rattle.blz_reader.proofs.KeptTold.{line_is, repeats_gives}
use Rattle.blz_reader.proofs.reader.Reader.location_in.Goals as goal

pub returns-clause-value : goal.returns-clause-value
returns-clause-value g c =
    let f = reader_files c.args.self.now in
    let t = reader_table c.args.self.now in
    let texts = c.args.self.now.dwarf.now.texts in
    repeats_gives (λ o. option_map location_view o) c.location_at.result (line_in texts f t c.args.addr c.args.number) (rw (c.as_slice.ensures.value, line_is texts f t c.fill_lines.new.caches.units.items c.args.addr c.args.number c.fill_lines.ensures.fills.fillable.fits.units c.in_ok-fill_lines.ensures.filled) at c.location_at.ensures)
