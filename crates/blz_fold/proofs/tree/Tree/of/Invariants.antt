use Rattle.std.proofs.Common.{◌≡◌, nat_eq, take}
use Rattle.blz_fold.specs.Counted.{nodes_of}
use Rattle.blz_fold.proofs.tree.Tree.of.Given as goal

abbrev pub invariant-loop-i : goal.invariant-loop-i
invariant-loop-i l = record {
  lines : l.tree.lines ≡ l.lines;
  nodes : l.tree.nodes ≡ nodes_of nat_eq (take l.i l.lines);
}
