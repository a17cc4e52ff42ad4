use Rattle.blz_listings.proofs.ToldNames.{told_by_name}
use Rattle.blz_listings.proofs.laws.answered_function_is_told_by_name.Goals as goal

pub returns : goal.returns
returns c = told_by_name
