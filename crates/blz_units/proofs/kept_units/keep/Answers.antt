use Rattle.std.proofs.Common.{◌≡◌, length, ap, arith}
use Rattle.blz_ranges.proofs.OwnedItems.{length_filled}
use Rattle.blz_units.proofs.kept_units.keep.Goals as goal

pub invariant_of-result : goal.invariant_of-result
invariant_of-result c =
    let k = ap length c.in_ok-own.ensures in
    let l = length_filled c.args.owners.items c.len.result c.len-2.result (omega arith) in
    let same : length c.args.spans.items ≡ length c.own.new.owners.items = omega arith in
    same
