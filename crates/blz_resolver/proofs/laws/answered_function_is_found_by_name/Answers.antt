use Rattle.blz_resolver.proofs.NamedFunctions.{found_by_name}
use Rattle.blz_resolver.proofs.laws.answered_function_is_found_by_name.Goals as goal

pub returns : goal.returns
returns c = found_by_name
