use Rattle.std.proofs.Common.{◌≡◌, ◌∙◌, ◌++◌, ap, map}
use Rattle.std.specs.List.{flat_map}
use Rattle.blz_fold.specs.Numbered.{list_at}
use Rattle.blz_fold.proofs.CountingSteps.{count_fits_there, counted_further}
use Rattle.blz_fold.proofs.counting.counted_lines.Goals as goal

pub add-requires : goal.add-requires
add-requires c = count_fits_there c.args.addresses.now.keys (map (λ v. v.items) c.args.lists.now) c.args.stacks.now c.loop-stack.stack-index c.stack-item.result c.loop-stack-test.true c.stack-item.is c.loop-stack.lines c.loop-stack.invariant c.requires

pub loop-stack-preserved : goal.loop-stack-preserved
loop-stack-preserved c =
    let addresses = c.args.addresses.now.keys in
    let lists = map (λ v. v.items) c.args.lists.now in
    let f = list_at addresses lists in
    let joined : c.deref.result.now ≡ flat_map f c.stack-item.result.addresses = c.deref.ensures.value ∙ c.in_ok-join_lists.ensures ∙ ap (λ z. z ++ flat_map f c.as_slice.result.now) c.clear.ensures.items ∙ ap (λ z. flat_map f z) c.as_slice.ensures in
    c.in_ok-add.ensures ∙ counted_further addresses lists c.args.stacks.now c.loop-stack.stack-index c.stack-item.result c.loop-stack-test.true c.stack-item.is c.loop-stack.lines c.loop-stack.invariant c.deref.result.now joined
