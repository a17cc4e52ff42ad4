use Rattle.std.proofs.Common.{arith}
use Rattle.blz_image.specs.RelocationTables.{put_entry}
use Rattle.blz_image.proofs.Folds.{fold_more}
use Rattle.blz_image.proofs.relocations.relocating.put_entries.Goals as goal

pub loop-i-preserved : goal.loop-i-preserved
loop-i-preserved c = fold_more (put_entry c.args.symbols.now c.args.target) c.args.map.now c.args.entries.now c.loop-i.i _ _ _ (omega (arith, c.len-i-end.ensures)) c.at.ensures c.loop-i.invariant c.in_ok-put_entry.ensures
