use Rattle.blz_units.proofs.SharedSteps.{new_shared}
use Rattle.blz_units.proofs.shared.shared_parts.SharedParts.new.Goals as goal

pub returns : goal.returns
returns c = λ s. new_shared s _ c.new.ensures.empty c.new-2.ensures.empty (c.new-3.ensures s)
