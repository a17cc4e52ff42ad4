use Rattle.std.proofs.Common.{refl, arith}
use Rattle.blz_image.specs.SymbolTables.{is_typed}
use Rattle.blz_image.proofs.Folds.{filter_takes, filter_keeps}
use Rattle.blz_symbols.proofs.sorted.typed_of.Goals.{then-is_typed+in_ok-push, else-is_typed}
use Rattle.blz_symbols.proofs.sorted.typed_of.Goals as goal

pub loop-i-preserved : goal.loop-i-preserved
loop-i-preserved c =
    elim c.if-is_typed.branch [
      | then-is_typed+in_ok-push w ↦ filter_takes is_typed c.args.symbols.now c.loop-i.i c.at-symbol.result _ _ (omega (arith, c.len-i-end.ensures)) c.at-symbol.ensures w.if-is_typed.ensures c.loop-i.invariant (rw (w.typed-is, w.in_ok-push.ensures.items) refl)
      | else-is_typed w ↦ filter_keeps is_typed c.args.symbols.now c.loop-i.i _ _ _ (omega (arith, c.len-i-end.ensures)) c.at-symbol.ensures w.if-is_typed.ensures c.loop-i.invariant (rw (w.typed-is) refl)
    ]
