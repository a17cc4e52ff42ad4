use Rattle.std.proofs.Common.{◌≡◌, map, take}
use Rattle.blz_fold.specs.FoldedViews.{node_bytes}
use Rattle.blz_fold.specs.Numbered.{spelled_node}
use Rattle.blz_fold.proofs.texts.fold_nodes.Given as goal

abbrev pub invariant-loop-i : goal.invariant-loop-i
invariant-loop-i l = map node_bytes l.nodes.items ≡ map (spelled_node l.names) (take l.i l.tree.nodes)
