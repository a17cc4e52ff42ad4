use Rattle.blz_bundle.proofs.OpeningCauses.{opening_concludes}
use Rattle.blz_bundle.proofs.owned_bundle.OwnedBundle.open_with_debug_dirs.Goals as goal

pub returns-clause-opened : goal.returns-clause-opened
returns-clause-opened g c = opening_concludes _ _ _ _ c.open_companions.result c.open_companions.ensures.value
