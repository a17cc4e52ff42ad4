use Rattle.blz_units.proofs.ToldUnits.{told_once}
use Rattle.blz_units.proofs.announced.units_at.UnitsAt.once.Goals as goal

pub returns : goal.returns
returns c = told_once c.args.announced.now c.args.addr c.new.result c.new.ensures
