use Rattle.std.proofs.Common.{◌∙◌}
use Rattle.blz_units.proofs.ToldUnits.{told_all}
use Rattle.blz_units.proofs.announced.units_at.UnitsAt.new.Goals as goal

pub returns : goal.returns
returns c = told_all c.new.result ∙ c.new.ensures
