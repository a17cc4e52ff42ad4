use Rattle.blz_ranges.proofs.Made.{order_made}
use Rattle.blz_ranges.proofs.grouped.search_order.Goals as goal

pub returns : goal.returns
returns c = λ t order. order_made c.args.list.now c.args.keys.now c.args.places.now c.in_ok-turned.turned.items c.as_slice.result.now c.in_ok-order.order.items c.requires order c.in_ok-turned.ensures c.as_slice.ensures.value c.in_ok-order.ensures
