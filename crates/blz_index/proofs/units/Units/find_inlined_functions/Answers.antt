use Rattle.std.proofs.Common.{refl}
use Rattle.blz_index.proofs.UnitsAgain.{leaves_more}
use Rattle.blz_index.proofs.units.Units.find_inlined_functions.Goals as goal

pub returns-clause-leaves : goal.returns-clause-leaves
returns-clause-leaves g c = leaves_more _ _ _ _ _ c.requires.asked c.find_inlined.ensures.fills refl refl
