use Rattle.std.proofs.Common.{◌∙◌, sym, length}
use Rattle.std.proofs.lemmas.Bool.{OnTrue_from}
use Rattle.blz_bytes.specs.NameOrder.{name_before, NameBefore}
use Rattle.blz_bytes.proofs.Accepted.{accepted_is_order}
use Rattle.blz_bytes.proofs.NameOrdering.{names_are_ordered}
use Rattle.blz_bytes.proofs.ranked.check_names.Goals as goal

pub returns-clause-order : goal.returns-clause-order
returns-clause-order c =
    let strs = c.args.strs.now in
    let names = c.args.names.now in
    OnTrue_from c.put_in_order.result _ (λ t. accepted_is_order (name_before strs names) (NameBefore strs names) (length names) c.args.places.now (names_are_ordered strs names) (sym c.put_in_order.ensures ∙ t))
