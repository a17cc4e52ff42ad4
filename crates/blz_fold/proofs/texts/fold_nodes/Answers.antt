use Rattle.std.proofs.Common.{◌∙◌, ap, length, arith}
use Rattle.std.proofs.lemmas.List.{length-map}
use Rattle.blz_error.specs.Texts.{Bytes}
use Rattle.std.proofs.Common.{List}
use Rattle.blz_fold.specs.FoldedViews.{node_bytes}
use Rattle.blz_fold.specs.Numbered.{name_at, spelled_node}
use Rattle.blz_fold.specs.Trees.{line_names, node_at}
use Rattle.blz_fold.proofs.MapSteps.{first_texts, line_texts, made_further}
use Rattle.blz_fold.proofs.texts.fold_nodes.Goals as goal

pub front-requires : goal.front-requires
front-requires c =
    let table = c.args.names.now in
    let lines = c.args.tree.now.lines in
    let node = c.at-node.result in
    let texts = line_texts table c.args.lines.now lines c.requires node.line c.index-lines-node.result c.at-node.ensures.within.line in
    let same = ap (λ (z : List Bytes). length z) texts ∙ length-map (line_names lines node.line) (name_at table) in
    omega (arith, same, c.at-node.ensures.within.len)

pub loop-i-preserved : goal.loop-i-preserved
loop-i-preserved c =
    let table = c.args.names.now in
    let lines = c.args.tree.now.lines in
    let node = c.at-node.result in
    let texts = line_texts table c.args.lines.now lines c.requires node.line c.index-lines-node.result c.at-node.ensures.within.line in
    let names = c.in_ok-front.ensures ∙ first_texts table node.len _ (line_names lines node.line) texts in
    made_further node_bytes (spelled_node table) c.loop-i.nodes.items _ c.push.new.self.items c.args.tree.now.nodes c.loop-i.i (node_at lines node) c.in_ok-push.ensures.items c.loop-i.invariant c.at-node.ensures.node (λ j. record { names = names j; count = node.count; own = node.own })
