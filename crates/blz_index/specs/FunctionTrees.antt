-- The tree from which the lists of inlined calls of a function are made.
use Rattle.std.specs.Prelude.{List}
use Rattle.blz_functions.specs.CallTree.{CallLists, IsTreeOf}
use Rattle.blz_functions.specs.Chain.{TreeCall}

-- some calls with parents and depths, from which lists are made
pub record HasTree (lists : CallLists) : Type 0 where
  pub tree : List TreeCall
  pub is : IsTreeOf lists tree
