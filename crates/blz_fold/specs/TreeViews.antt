-- What a tree is: the lines, and the nodes of which it is made.
use Rattle.std.specs.Prelude.{ℕ, List}
use Rattle.blz_fold.specs.Counted.{Counted, Node}

pub record NodesOfLines : Type 0 where
  pub lines : List (Counted ℕ)
  pub nodes : List (Node ℕ)
