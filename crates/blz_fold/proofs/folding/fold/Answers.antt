use Rattle.blz_resolver.specs.BundleViews.{bundle_view}
use Rattle.blz_fold.proofs.Named.{folded_adds_up, folded_good, folded_total}
use Rattle.blz_fold.proofs.folding.fold.Goals as goal

pub returns-clause-value : goal.returns-clause-value
returns-clause-value g c = folded_good (bundle_view c.args.bundle.now) c.args.stacks.now c.in_ok-named.named c.in_ok-named.ensures.value c.in_ok-folded.field-0 c.in_ok-folded.ensures.lines c.in_ok-folded.ensures.nodes

pub returns-clause-total : goal.returns-clause-total
returns-clause-total g c = folded_total (bundle_view c.args.bundle.now) c.args.stacks.now c.in_ok-named.named c.in_ok-named.ensures.value c.in_ok-folded.field-0 c.in_ok-folded.ensures.lines

pub returns-clause-add_up : goal.returns-clause-add_up
returns-clause-add_up g c = folded_adds_up c.in_ok-named.named c.in_ok-folded.field-0 c.in_ok-folded.ensures.nodes
