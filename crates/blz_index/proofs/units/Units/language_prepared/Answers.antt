use Rattle.blz_units.specs.UnitAnswers.{unit_language}
use Rattle.blz_index.specs.UnitsWarm.{units_table}
use Rattle.blz_reader.proofs.KeptTold.{language_is, repeats_exactly}
use Rattle.blz_index.proofs.units.Units.language_prepared.Goals as goal

pub returns : goal.returns
returns c = λ f fits.
    let u = c.args.self.now in
    repeats_exactly (λ l. l) c.language_of.result (unit_language f (units_table u) c.args.unit) (rw (c.as_slice.ensures.value, language_is f (units_table u) u.caches.units.items c.args.unit fits.caches.units ((fits.full c.requires.prepared c.args.unit).root)) at c.language_of.ensures)
