use Rattle.std.proofs.Common.{◌≡◌, map, take}
use Rattle.std.specs.List.{flat_map}
use Rattle.blz_fold.specs.FoldTexts.{node_text}
use Rattle.blz_fold.specs.Numbered.{spelled_node}
use Rattle.blz_fold.proofs.printing.print_nodes.Given as goal

abbrev pub invariant-loop-i : goal.invariant-loop-i
invariant-loop-i l = l.out.items ≡ flat_map node_text (map (spelled_node l.names) (take l.i l.tree.nodes))
