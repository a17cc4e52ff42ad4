use Rattle.std.proofs.Common.{◌∙◌, ap, sym, map}
use Rattle.std.specs.List.{flat_map}
use Rattle.std.specs.Str.{bytes_eq}
use Rattle.blz_fold.specs.Counted.{nodes_of}
use Rattle.blz_fold.specs.FoldTexts.{node_text}
use Rattle.blz_fold.specs.Naming.{FoldedNames}
use Rattle.blz_fold.specs.Numbered.{spelled_node}
use Rattle.blz_fold.specs.Runs.{folded_text}
use Rattle.blz_fold.proofs.MadeTexts.{if_ok_same}
use Rattle.blz_fold.proofs.Named.{nodes_spelled}
use Rattle.blz_fold.proofs.named_lines.NamedLines.printed.Goals as goal

pub returns-in_ok-tree : goal.returns-in_ok-tree
returns-in_ok-tree c =
    let table = c.self.inside.names in
    let folded : FoldedNames = record { lines = c.args.self.now; nodes = nodes_of bytes_eq c.args.self.now } in
    let nodes = c.in_ok-tree.ensures.nodes in
    let same = ap (λ z. flat_map node_text (map (spelled_node table) z)) nodes
    ∙ ap (λ z. flat_map node_text z) (sym (nodes_spelled table c.self.invariant.apart c.self.inside.lines c.self.invariant.placed) ∙ ap (λ z. nodes_of bytes_eq z) c.self.view_is)
    ∙ sym (ap (λ b. folded_text b folded) c.if-nodes.true) in
    if_ok_same c.print_nodes.result _ (folded_text c.args.nodes folded) same c.print_nodes.ensures
