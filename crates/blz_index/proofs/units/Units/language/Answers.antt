use Rattle.std.proofs.Common.{refl}
use Rattle.blz_index.proofs.UnitsAgain.{leaves_more}
use Rattle.blz_index.proofs.units.Units.language.Goals as goal

pub returns-clause-leaves : goal.returns-clause-leaves
returns-clause-leaves c = λ told. leaves_more told _ _ _ _ c.requires.asked (c.language.ensures.fills told) refl refl
