use Rattle.blz_symbols.proofs.NameSearch.{names_sorted}
use Rattle.blz_symbols.proofs.name_order.order_of.Goals as goal

pub returns-then-check_names-clause-fits : goal.returns-then-check_names-clause-fits
returns-then-check_names-clause-fits g c =
    rw (← c.deref-3.ensures.value) (names_sorted c.args.strings.now c.deref-2.result.now c.args.listed.now c.deref-3.result.now
    (rw (c.deref-2.ensures.value) c.in_ok-spans.ensures)
    (c.if-check_names.ensures.order))
