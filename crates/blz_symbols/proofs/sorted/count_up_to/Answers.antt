use Rattle.std.proofs.Common.{ℕ, map, rules, of_calls}
use Rattle.std.specs.Prelude.{nat_le}
use Rattle.std.proofs.lemmas.Fn.{always_returns_same}
use Rattle.blz_symbols.specs.Accepted.{value_at}
use Rattle.blz_symbols.proofs.Halving.{split_by}
use Rattle.blz_symbols.proofs.Search.{value_falls, splits_at}
use Rattle.blz_symbols.proofs.sorted.count_up_to.Goals as goal

pub returns : goal.returns
returns c =
    let xs = c.args.typed.now in
    let places = c.args.places.now in
    let is_up_to = λ (i : ℕ). nat_le (value_at xs i) c.args.addr in
    splits_at xs places c.args.addr c.partition_point.result c.partition_point.ensures.bound
    (split_by is_up_to places c.partition_point.result (λ j k. value_falls xs places c.args.addr j k c.requires.accepted)
    (c.partition_point.ensures.partitioned is_up_to (always_returns_same _ _ _ (λ a r f k. search (rules, of_calls)))))
