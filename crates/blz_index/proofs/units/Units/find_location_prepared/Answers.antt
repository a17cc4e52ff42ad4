use Rattle.std.proofs.Common.{◌∙◌, sym}
use Rattle.blz_units.specs.UnitSites.{location_at}
use Rattle.blz_units.specs.UnitTables.{announcing}
use Rattle.blz_reader.proofs.LeftOut.{line_again}
use Rattle.blz_index.specs.UnitsWarm.{units_table}
use Rattle.blz_reader.proofs.KeptTold.{first_line_is}
use Rattle.blz_index.proofs.NeverFull.{line_exactly}
use Rattle.blz_index.proofs.units.Units.find_location_prepared.Goals as goal

pub returns-clause-value : goal.returns-clause-value
unfolding location_at
returns-clause-value g c = λ f fits.
    let u = c.args.self.now in
    let left = c.once-announcing.result.left in
    let all = announcing (units_table u) c.args.addr in
    let is = first_line_is c.args.texts.now f (units_table u) u.caches.units.items c.args.addr left fits.caches.units (fits.full c.requires) ∙ sym (line_again c.args.texts.now f (units_table u) c.args.addr all left c.once-announcing.ensures.without) in
    line_exactly c.args.texts.now f (units_table u) c.args.addr all c.first_location.result (rw (c.as_slice.ensures.value, is) at c.first_location.ensures.value)
