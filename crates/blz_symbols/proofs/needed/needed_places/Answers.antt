use Rattle.std.proofs.Common.{map, arith}
use Rattle.blz_symbols.proofs.NeededSteps.{needed_kept, needed_left, needed_all}
use Rattle.blz_symbols.proofs.needed.needed_places.Goals.{then-not-has_stand_in+in_ok-push, else-not-has_stand_in}
use Rattle.blz_symbols.proofs.needed.needed_places.Goals as goal

pub loop-k-preserved : goal.loop-k-preserved
loop-k-preserved c =
    let xs = c.args.typed.now in
    let places = c.args.places.now in
    elim c.if-not-has_stand_in.branch [
      | then-not-has_stand_in+in_ok-push w ↦ rw (w.kept-is, w.in_ok-push.ensures.items) (needed_kept xs places c.loop-k.k _ c.requires (omega arith) c.loop-k.invariant)
      | else-not-has_stand_in w ↦ rw (w.kept-is) (needed_left xs places c.loop-k.k _ c.requires (omega arith) (rw (← c.symbol_at_place-symbol.ensures, ← c.deref-in-loop-k.ensures.value) (w.if-not-has_stand_in.ensures)) c.loop-k.invariant)
    ]

pub returns : goal.returns
returns c = needed_all c.args.typed.now c.args.places.now c.loop-k.k _ c.requires (omega (arith, c.loop-k.auto.k-end)) c.loop-k.invariant
