use Rattle.std.proofs.Common.{◌∙◌, ap, sym, map}
use Rattle.std.specs.Str.{bytes_eq}
use Rattle.blz_fold.specs.Counted.{nodes_of}
use Rattle.blz_fold.specs.Numbered.{spelled_node}
use Rattle.blz_fold.proofs.Named.{nodes_spelled}
use Rattle.blz_fold.proofs.named_lines.NamedLines.folded.Goals as goal

pub returns-clause-nodes : goal.returns-clause-nodes
returns-clause-nodes c =
    c.new.ensures.nodes ∙ c.in_ok-nodes.ensures
    ∙ ap (λ z. map (spelled_node c.self.inside.names) z) c.in_ok-tree.ensures.nodes
    ∙ sym (nodes_spelled c.self.inside.names c.self.invariant.apart c.self.inside.lines c.self.invariant.placed)
    ∙ ap (λ z. nodes_of bytes_eq z) c.self.view_is
