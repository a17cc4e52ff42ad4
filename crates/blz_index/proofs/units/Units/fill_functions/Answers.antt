use Rattle.std.proofs.Common.{refl}
use Rattle.blz_index.proofs.UnitsAgain.{leaves_more}
use Rattle.blz_index.proofs.units.Units.fill_functions.Goals as goal

pub returns-clause-leaves : goal.returns-clause-leaves
returns-clause-leaves g c = leaves_more _ _ _ _ _ c.requires.asked c.list_functions.ensures.fills refl refl
