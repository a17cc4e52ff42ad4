use Rattle.std.proofs.Common.{◌∙◌, sym, length}
use Rattle.std.proofs.lemmas.Bool.{OnTrue_from}
use Rattle.blz_bytes.specs.PairOrder.{pair_before, PairBefore}
use Rattle.blz_bytes.proofs.Accepted.{accepted_is_order}
use Rattle.blz_bytes.proofs.PairOrdering.{pairs_are_ordered}
use Rattle.blz_bytes.proofs.ranked.check_pairs.Goals as goal

pub returns-clause-order : goal.returns-clause-order
returns-clause-order c =
    let keys = c.args.keys.now in
    OnTrue_from c.put_in_order.result _ (λ t. accepted_is_order (pair_before keys) (PairBefore keys) (length keys) c.args.places.now (pairs_are_ordered keys) (sym c.put_in_order.ensures ∙ t))
