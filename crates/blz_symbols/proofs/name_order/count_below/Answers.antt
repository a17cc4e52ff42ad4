use Rattle.std.proofs.Common.{ℕ, rules, of_calls}
use Rattle.std.specs.Ordering.{is_gt}
use Rattle.std.proofs.lemmas.Fn.{always_returns_same}
use Rattle.blz_bytes.specs.NameOrder.{name_cmp}
use Rattle.blz_symbols.specs.NameOrders.{named_in, listed_name}
use Rattle.blz_symbols.proofs.Halving.{split_by}
use Rattle.blz_symbols.proofs.NameSearch.{below_falls, splits_names}
use Rattle.blz_symbols.proofs.name_order.count_below.Goals as goal

pub returns : goal.returns
returns c =
    let names = named_in c.args.strings.now c.args.listed.now in
    let places = c.args.places.now in
    let name = c.args.name.now in
    let is_below = λ (i : ℕ). is_gt (name_cmp name (listed_name names i)) in
    splits_names names places name c.partition_point.result c.partition_point.ensures.bound
    (split_by is_below places c.partition_point.result (λ j k. below_falls names places name j k c.requires)
    (c.partition_point.ensures.partitioned is_below (always_returns_same _ _ _ (λ a r f k. search (rules, of_calls)))))
