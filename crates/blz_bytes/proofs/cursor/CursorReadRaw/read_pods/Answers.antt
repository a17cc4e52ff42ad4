use Rattle.std.proofs.Common.{◌<◌, ◌*◌, length, refl, arith}
use Rattle.blz_bytes.proofs.RecordsLoop.{none_left}
use Rattle.blz_bytes.proofs.cursor.CursorReadRaw.read_pods.Goals as goal

pub returns-in_default : goal.returns-in_default
returns-in_default g c =
    let self = c.args.self.now in
    let past : length self.bytes < c.args.count * g.T.Pod.SIZE = rw (← c.self.view_is, ← c.SIZE.ensures) (omega (arith, c.in_default.ensures)) in
    (none_left g.T.Pod.value g.T.Pod.SIZE c.args.count self.order self.bytes self.position past, refl)
