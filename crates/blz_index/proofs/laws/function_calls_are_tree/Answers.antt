use Rattle.std.proofs.Common.{refl}
use Rattle.blz_functions.proofs.ChainPath.{chain_is_path}
use Rattle.blz_index.proofs.CallsOfUnits.{function_calls_have_tree}
use Rattle.blz_index.proofs.laws.function_calls_are_tree.Goals as goal

pub returns-clause-tree : goal.returns-clause-tree
returns-clause-tree c = function_calls_have_tree

pub returns-clause-path : goal.returns-clause-path
returns-clause-path c = λ lists tree a t nested. chain_is_path _ _ a _ _ refl t.ranges t.count t.is_tree nested
