use Rattle.blz_info.proofs.Preorder.{walk_is_preorder}
use Rattle.blz_info.proofs.laws.flat_walk_is_preorder.Goals as goal

pub returns : goal.returns
returns c = walk_is_preorder
