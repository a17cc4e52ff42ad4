use Rattle.std.proofs.Common.{refl}
use Rattle.blz_units.specs.BuiltUnits.{files_view}
use Rattle.blz_index.proofs.UnitsAgain.{fit_on}
use Rattle.blz_index.proofs.units.Units.prepare.Goals as goal

pub returns-clause-fits : goal.returns-clause-fits
returns-clause-fits g c = record { table = c.requires.asked.fits.table; caches = c.fill_all.ensures.fills.fillable.fits; full = λ _. c.in-Ok.ensures.filled }

pub returns-clause-grows : goal.returns-clause-grows
returns-clause-grows g c = record { table = refl; announced = refl; units = c.fill_all.ensures.fills.grows }

pub returns-in_default-clause-fits : goal.returns-in_default-clause-fits
returns-in_default-clause-fits g c =
    let u = c.args.self.now in
    let f = files_view c.args.dwarf.now in
    fit_on f g.O.Orders.pair_places u _ c.requires.asked.fits refl refl c.fill_all.ensures.fills.fillable.fits c.fill_all.ensures.fills.grows

pub returns-in_default-clause-grows : goal.returns-in_default-clause-grows
returns-in_default-clause-grows g c = record { table = refl; announced = refl; units = c.fill_all.ensures.fills.grows }
