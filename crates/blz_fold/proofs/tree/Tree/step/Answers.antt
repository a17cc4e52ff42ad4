use Rattle.std.proofs.Common.{◌≡◌, ◌≤◌, ◌+◌, ◌++◌, ◌∷◌, ◌∙◌, [], ap, sym, subst, length, nat_eq, arith, ℕ}
use Rattle.std.specs.List.{AllByRecursion}
use Rattle.std.specs.Option.{option_copied}
use Rattle.indexmap.specs.IndexMap.{insert_entry}
use Rattle.blz_fold.specs.Adding.{node_added}
use Rattle.blz_fold.specs.TreeViews.{NodesOfLines}
use Rattle.blz_fold.specs.Trees.{IsTree, IsWithin, NodeFits, all_names, names_at, node_at, nodes_in}
use Rattle.blz_fold.proofs.TreeSteps.{lent_fits, same_key, step_counts, step_fits, step_place, step_tree}
use Rattle.blz_fold.proofs.tree.Tree.step.Goals as goal

pub counted-counted-requires : goal.counted-counted-requires
counted-counted-requires c =
    let b = c.args.node in
    let inside = subst (λ (v : NodesOfLines). c.args.parent ≤ length v.nodes) (sym c.self.view_is) c.requires.parent in
    let named = subst (λ (v : NodesOfLines). (node_at v.lines b).names ≡ names_at (all_names v.nodes) c.args.parent ++ c.args.number ∷ []) (sym c.self.view_is) c.requires.names in
    let fits = subst (λ (v : NodesOfLines). AllByRecursion NodeFits (node_added nat_eq v.nodes (node_at v.lines b))) (sym c.self.view_is) c.requires.fits in
    lent_fits c.get.result b (step_fits c.self.inside.lines.now c.self.inside.nodes.entries c.self.invariant c.args.parent c.args.number b inside named (option_copied c.get.result) (sym c.get.ensures.value) fits)

pub overflow_add-result : goal.overflow_add-result
overflow_add-result c = omega (arith, c.in_ok-index.ensures.within, c.len-len.ensures.len, c.len-len.ensures.small)

pub invariant_of-self-2 : goal.invariant_of-self-2
invariant_of-self-2 c =
    let b = c.args.node in
    let lines = c.self.inside.lines.now in
    let es = c.self.inside.nodes.entries in
    let key : ℕ × ℕ = (c.args.parent, c.args.number) in
    let inside = subst (λ (v : NodesOfLines). c.args.parent ≤ length v.nodes) (sym c.self.view_is) c.requires.parent in
    let named = subst (λ (v : NodesOfLines). (node_at v.lines b).names ≡ names_at (all_names v.nodes) c.args.parent ++ c.args.number ∷ []) (sym c.self.view_is) c.requires.names in
    let within = subst (λ (v : NodesOfLines). IsWithin v.lines b) (sym c.self.view_is) c.requires.within in
    let new = c.in_ok-index.ensures.entries ∙ ap (λ z. insert_entry same_key es key z) c.counted-counted.ensures in
    subst (λ z. IsTree lines z) (sym new) (step_tree lines es c.self.invariant c.args.parent c.args.number b inside named (option_copied c.get.result) (sym c.get.ensures.value) within)

pub returns-clause-nodes : goal.returns-clause-nodes
returns-clause-nodes c =
    let b = c.args.node in
    let lines = c.self.inside.lines.now in
    let es = c.self.inside.nodes.entries in
    let key : ℕ × ℕ = (c.args.parent, c.args.number) in
    let inside = subst (λ (v : NodesOfLines). c.args.parent ≤ length v.nodes) (sym c.self.view_is) c.requires.parent in
    let named = subst (λ (v : NodesOfLines). (node_at v.lines b).names ≡ names_at (all_names v.nodes) c.args.parent ++ c.args.number ∷ []) (sym c.self.view_is) c.requires.names in
    let new = c.in_ok-index.ensures.entries ∙ ap (λ z. insert_entry same_key es key z) c.counted-counted.ensures in
    ap (λ z. nodes_in lines z) new ∙ step_counts lines es c.self.invariant c.args.parent c.args.number b inside named (option_copied c.get.result) (sym c.get.ensures.value) ∙ ap (λ (v : NodesOfLines). node_added nat_eq v.nodes (node_at v.lines b)) c.self.view_is

pub returns-clause-place : goal.returns-clause-place
returns-clause-place c =
    let b = c.args.node in
    let lines = c.self.inside.lines.now in
    let es = c.self.inside.nodes.entries in
    let key : ℕ × ℕ = (c.args.parent, c.args.number) in
    let inside = subst (λ (v : NodesOfLines). c.args.parent ≤ length v.nodes) (sym c.self.view_is) c.requires.parent in
    let named = subst (λ (v : NodesOfLines). (node_at v.lines b).names ≡ names_at (all_names v.nodes) c.args.parent ++ c.args.number ∷ []) (sym c.self.view_is) c.requires.names in
    let new = c.in_ok-index.ensures.entries ∙ ap (λ z. insert_entry same_key es key z) c.counted-counted.ensures in
    let counts = ap (λ z. nodes_in lines z) new ∙ step_counts lines es c.self.invariant c.args.parent c.args.number b inside named (option_copied c.get.result) (sym c.get.ensures.value) in
    step_place lines es c.self.invariant c.args.parent c.args.number b inside named (nodes_in lines c.insert_full.new.self.entries) (c.in_ok-index.index + 1) counts (ap (λ n. n + 1) c.in_ok-index.ensures.index)
    ∙ ap (λ (v : NodesOfLines). (node_at v.lines b).names) c.self.view_is
