use Rattle.std.proofs.Common.{◌≡◌, ◌≤◌, ◌++◌, length, nat_eq, take}
use Rattle.std.specs.List.{flat_map}
use Rattle.blz_fold.specs.Trees.{all_names, names_at}
use Rattle.blz_fold.proofs.Beginnings.{entries}
use Rattle.blz_fold.proofs.Gathered.{gathered}
use Rattle.blz_fold.proofs.tree.Tree.add.Given as goal

abbrev pub invariant-loop-k : goal.invariant-loop-k
invariant-loop-k l = record {
  lines : l.self.lines ≡ l.initial.self.lines;
  nodes : l.self.nodes ≡ gathered nat_eq (flat_map (entries nat_eq) (take l.line l.initial.self.lines) ++ take l.k (entries nat_eq (record { names = l.numbers; count = l.count })));
  within : l.parent ≤ length l.self.nodes;
  place : names_at (all_names l.self.nodes) l.parent ≡ take l.k l.numbers;
}
