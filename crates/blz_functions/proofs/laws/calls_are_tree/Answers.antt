use Rattle.std.proofs.Common.{refl}
use Rattle.blz_functions.proofs.CallsTree.{calls_are_tree}
use Rattle.blz_functions.proofs.ChainPath.{chain_is_path}
use Rattle.blz_functions.proofs.laws.calls_are_tree.Goals as goal

pub returns-clause-tree : goal.returns-clause-tree
returns-clause-tree c = λ refer u place calls h. calls_are_tree refer u place calls h

pub returns-clause-path : goal.returns-clause-path
returns-clause-path c = λ refer u place calls a h nested. let t = calls_are_tree refer u place calls h in chain_is_path _ _ a _ _ refl t.ranges t.count t.is_tree nested
