use Rattle.std.proofs.Common.{◌≡◌, ◌+◌, ◌-◌, length, take, drop, ap, ◌∙◌, arith}
use Rattle.std.proofs.lemmas.List.{take_rest}
use Rattle.blz_bytes.proofs.RecordsLoop.{values_on, room_for_one}
use Rattle.blz_bytes.proofs.cursor.records_in.Goals as goal

pub loop-preserved : goal.loop-preserved
loop-preserved g c =
    let size = g.T.Pod.SIZE in
    let value = g.T.Pod.value c.args.order in
    let bytes = c.args.bytes.now in
    let at = c.loop.at in
    let n = c.args.count - (c.loop.counter + 1) in
    let room = room_for_one size _ n at (length bytes) (omega arith) c.loop.invariant.left in
    let here : c.read.result ≡ value (take size (drop at bytes)) = c.read.ensures ∙ ap (λ rest. value (take size rest)) (take_rest bytes at) in
    record {
      left = rw c.SIZE-at.ensures room.1;
      read = rw (c.in_ok-push.ensures.items, here) (values_on value size _ n at _ _ bytes _ (omega arith) (ap (λ k. at + k) c.SIZE-at.ensures) c.loop.invariant.read);
    }
