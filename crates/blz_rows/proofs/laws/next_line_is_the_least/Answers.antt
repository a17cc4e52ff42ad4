use Rattle.blz_rows.proofs.NextLines.{next_is_least}
use Rattle.blz_rows.proofs.laws.next_line_is_the_least.Goals as goal

pub returns : goal.returns
returns c = next_is_least
