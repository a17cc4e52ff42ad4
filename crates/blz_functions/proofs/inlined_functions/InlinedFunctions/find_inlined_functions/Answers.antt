use Rattle.blz_functions.proofs.ChainPath.{chain_is_path}
use Rattle.blz_functions.proofs.inlined_functions.InlinedFunctions.find_inlined_functions.Goals as goal

pub returns-clause-path : goal.returns-clause-path
returns-clause-path c = λ tree ranges count is_tree nested. chain_is_path _ _ c.args.addr _ tree c.in_ok-chain.ensures ranges count is_tree nested
