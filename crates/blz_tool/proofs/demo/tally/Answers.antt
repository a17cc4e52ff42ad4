use Rattle.blz_tool.proofs.Tallied.{tallied-mark, tallied-read}
use Rattle.blz_tool.proofs.demo.tally.Goals as goal

pub returns-in-Err : goal.returns-in-Err
returns-in-Err g c = tallied-mark c.args.image.now c.args.n _ c.in-Err.ensures.frame

pub returns-in-Ok : goal.returns-in-Ok
returns-in-Ok g c =
    rw (← tallied-read c.args.image.now c.args.n _ _ c.in-Ok.ensures.frame c.in-Ok.ensures.images c.in-Ok.ensures.has_debug) c.prepared_tally.ensures
