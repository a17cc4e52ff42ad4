use Rattle.std.proofs.Common.{◌∙◌, ap, ◌++◌}
use Rattle.std.proofs.Common.{List, ℕ}
use Rattle.blz_fold.specs.FoldTexts.{node_text}
use Rattle.blz_fold.specs.Numbered.{spelled_node}
use Rattle.blz_fold.specs.Trees.{node_at}
use Rattle.blz_fold.proofs.PrintSteps.{printed_further}
use Rattle.blz_fold.proofs.printing.print_nodes.Goals as goal

pub loop-i-preserved : goal.loop-i-preserved
loop-i-preserved c =
    let table = c.args.names.now in
    let pushed = c.in_ok-push_node.ensures ∙ ap (λ (z : List ℕ). c.loop-i.out.items ++ node_text (spelled_node table (record { names = z; count = c.at-node.result.count; own = c.at-node.result.own }))) c.names_of.ensures in
    printed_further node_text (spelled_node table) c.args.tree.now.nodes c.loop-i.i (node_at c.args.tree.now.lines c.at-node.result) c.loop-i.out.items c.push_node.new.out.items pushed c.loop-i.invariant c.at-node.ensures.node
