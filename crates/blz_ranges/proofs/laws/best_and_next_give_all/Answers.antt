use Rattle.blz_ranges.proofs.InTurn.{turns}
use Rattle.blz_ranges.proofs.laws.best_and_next_give_all.Goals as goal

pub returns : goal.returns
returns c = turns
