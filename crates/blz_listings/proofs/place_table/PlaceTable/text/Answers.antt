use Rattle.std.proofs.Common.{arith}
use Rattle.std.proofs.lemmas.List.{append_assoc}
use Rattle.blz_listings.proofs.TableSteps.{counts_text-drop}
use Rattle.blz_listings.proofs.place_table.PlaceTable.text.Goals as goal

pub loop-index-preserved : goal.loop-index-preserved
loop-index-preserved c =
    grind (arith, append_assoc, counts_text-drop c.args.self.now c.loop-index.index, c.loop-index.invariant, c.in_ok-push_at.ensures)
