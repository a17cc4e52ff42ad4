use Rattle.std.proofs.Common.{sym, ◌∙◌}
use Rattle.std.proofs.lemmas.Bool.{OnTrue_at}
use Rattle.blz_ranges.proofs.Made.{index_kept, skips_kept}
use Rattle.blz_ranges.proofs.group_index.GroupIndex.build.Goals as goal

pub search_order-requires : goal.search_order-requires
search_order-requires g c = rw c.as_slice-2.ensures.value c.requires

pub invariant_of-result : goal.invariant_of-result
invariant_of-result g c = record {
  index = λ t.
      let order = rw (c.as_slice.ensures.value ∙ sym c.as_slice-3.ensures.value) at (OnTrue_at t c.check_pairs-ordered.ensures.order) in
      index_kept c.args.list.items c.new.result c.as_slice-2.result.now c.new-2.result c.in_ok-order.order.items c.new.ensures c.as_slice-2.ensures.value c.new-2.ensures (c.in_ok-order.ensures t order);
  skips = skips_kept c.new-2.result c.in_ok-order.order.items c.as_slice-4.result.now c.new-3.result c.in_ok-skips.skips.items c.new-2.ensures c.as_slice-4.ensures.value c.new-3.ensures c.in_ok-skips.ensures;
}
