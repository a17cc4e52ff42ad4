use Rattle.blz_resolver.proofs.CoveringFunctions.{at_covers}
use Rattle.blz_resolver.proofs.laws.answered_function_covers.Goals as goal

pub returns : goal.returns
returns c = at_covers
