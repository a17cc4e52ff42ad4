use Rattle.blz_cover.proofs.Faults.{not_marked}
use Rattle.blz_cover.proofs.cover.Cover.line_known.Goals as goal

pub unreachable-requires-in-Err : goal.unreachable-requires-in-Err
unreachable-requires-in-Err g c =
    let none = not_marked c.args.self.now.images c.args.addr c.requires.answered in
    let some = c.in-Err.ensures.mark in
    cc
