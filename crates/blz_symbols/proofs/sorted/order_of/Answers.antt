use Rattle.std.proofs.Common.{map}
use Rattle.blz_symbols.proofs.Search.{accepted}
use Rattle.blz_symbols.proofs.sorted.order_of.Goals as goal

pub needed_places-requires : goal.needed_places-requires
needed_places-requires g c =
    rw (c.deref-then-check_pairs.ensures.value, ← c.deref-3.ensures.value) (accepted c.deref-2.result.now c.args.typed.now c.deref-3.result.now
    (rw (c.deref-2.ensures.value) c.in_ok-keys.ensures)
    (c.if-check_pairs.ensures.order))
