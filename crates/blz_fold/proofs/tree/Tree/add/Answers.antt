use Rattle.std.proofs.Common.{◌≡◌, ◌+◌, ◌++◌, ◌∷◌, ◌∙◌, [], ap, sym, refl, subst, length, nat_eq, slice_get, get_or, Some, take, arith, List, ℕ}
use Rattle.std.proofs.lemmas.List.{take_more}
use Rattle.blz_fold.specs.Adding.{node_added}
use Rattle.blz_fold.specs.Counted.{Node}
use Rattle.blz_fold.specs.LineViews.{line_read}
use Rattle.blz_fold.specs.TreeViews.{NodesOfLines}
use Rattle.blz_fold.specs.Trees.{IsWithin, line_names, node_at}
use Rattle.blz_fold.specs.declared.tree.Beginning.{Beginning}
use Rattle.blz_fold.proofs.LineSteps.{added_fit, added_there, all_added, names_there, node_is_entry, none_added}
use Rattle.blz_fold.proofs.tree.Tree.add.Goals as goal

pub loop-k-init : goal.loop-k-init
loop-k-init c =
    let there = subst (λ (v : NodesOfLines). slice_get v.lines c.args.line ≡ Some (line_read c.at-count.result)) c.self.view_is c.at-count.ensures in
    record {
      lines = refl;
      nodes = c.requires.done ∙ none_added c.args.self.now.lines c.args.line (line_read c.at-count.result) there c.requires.line c.requires.small;
      within = omega arith;
      place = refl;
    }

pub step-requires-clause-names : goal.step-requires-clause-names
step-requires-clause-names c =
    let line = c.args.line in
    let s = line_read c.at-count.result in
    let k = c.loop-k.k in
    let there = subst (λ (v : NodesOfLines). slice_get v.lines line ≡ Some s) c.self.view_is c.at-count.ensures in
    ap (λ z. take (k + 1) (line_names z line)) c.loop-k.invariant.lines
    ∙ ap (λ z. take (k + 1) z) (names_there c.args.self.now.lines line s there)
    ∙ take_more s.names k 0 c.loop-k-test.true
    ∙ ap (λ z. z ++ get_or s.names k 0 ∷ []) (sym c.loop-k.invariant.place)

pub step-requires-clause-within : goal.step-requires-clause-within
step-requires-clause-within c =
    let line = c.args.line in
    let s = line_read c.at-count.result in
    let b : Beginning = record { line = line; len = c.loop-k.k + 1; count = s.count; own = c.own_count.result } in
    let there = subst (λ (v : NodesOfLines). slice_get v.lines line ≡ Some s) c.self.view_is c.at-count.ensures in
    let names = names_there c.args.self.now.lines line s there in
    subst (λ z. IsWithin z b) (sym c.loop-k.invariant.lines) (record { line = c.requires.line; len = omega (arith, ap (λ (z : List ℕ). length z) names, c.loop-k-test.true) })

pub step-requires-clause-fits : goal.step-requires-clause-fits
step-requires-clause-fits c =
    let line = c.args.line in
    let s = line_read c.at-count.result in
    let k = c.loop-k.k in
    let b : Beginning = record { line = line; len = k + 1; count = s.count; own = c.own_count.result } in
    let there = subst (λ (v : NodesOfLines). slice_get v.lines line ≡ Some s) c.self.view_is c.at-count.ensures in
    let is = ap (λ z. node_at z b) c.loop-k.invariant.lines ∙ node_is_entry c.args.self.now.lines b s k c.loop-k-test.true (names_there c.args.self.now.lines line s there) refl refl c.own_count.ensures in
    added_fit c.args.self.now.lines line s there c.requires.line c.requires.small k c.loop-k-test.true c.loop-k.self.nodes (node_at c.loop-k.self.lines b) c.loop-k.invariant.nodes is

pub loop-k-preserved : goal.loop-k-preserved
loop-k-preserved c =
    let line = c.args.line in
    let s = line_read c.at-count.result in
    let k = c.loop-k.k in
    let b : Beginning = record { line = line; len = k + 1; count = s.count; own = c.own_count.result } in
    let there = subst (λ (v : NodesOfLines). slice_get v.lines line ≡ Some s) c.self.view_is c.at-count.ensures in
    let is = ap (λ z. node_at z b) c.loop-k.invariant.lines ∙ node_is_entry c.args.self.now.lines b s k c.loop-k-test.true (names_there c.args.self.now.lines line s there) refl refl c.own_count.ensures in
    record {
      lines = c.step.ensures.lines ∙ c.loop-k.invariant.lines;
      nodes = c.in_ok-parent.ensures.nodes ∙ (λ i. node_added nat_eq (c.loop-k.invariant.nodes i) (is i)) ∙ added_there c.args.self.now.lines line s there c.requires.line c.requires.small k c.loop-k-test.true;
      within = c.in_ok-parent.ensures.within;
      place = c.in_ok-parent.ensures.place ∙ ap (λ (n : Node ℕ). n.names) is;
    }

pub returns-clause-nodes : goal.returns-clause-nodes
returns-clause-nodes c =
    let there = subst (λ (v : NodesOfLines). slice_get v.lines c.args.line ≡ Some (line_read c.at-count.result)) c.self.view_is c.at-count.ensures in
    c.loop-k.invariant.nodes ∙ all_added c.args.self.now.lines c.args.line (line_read c.at-count.result) there c.requires.line c.requires.small c.loop-k.k c.loop-k-test.false
