use Rattle.std.proofs.Common.{◌∙◌}
use Rattle.blz_units.proofs.PutItems.{push_empty}
use Rattle.blz_reader.proofs.filling.puts.lengthen.Goals as goal

pub loop-room-preserved : goal.loop-room-preserved
loop-room-preserved c = rw c.in_ok-push.ensures.items (λ n. push_empty c.loop-room.calls.items n ∙ c.loop-room.invariant n)
