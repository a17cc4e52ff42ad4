use Rattle.std.proofs.Common.{◌-◌, arith}
use Rattle.blz_image.proofs.ReadRuns.{run_noted}
use Rattle.blz_image.proofs.relocations.read_places.note_read.Goals as goal
use Rattle.blz_image.proofs.relocations.read_places.note_read.Goals.{then-before-last+in_ok-insert, else-before-last}

pub loop-end-preserved : goal.loop-end-preserved
loop-end-preserved c = (
  omega (arith, c.saturating_sub-end.ensures, c.loop-end.invariant.0),
  λ is_read was each. elim c.if-before-last.branch [
    | then-before-last+in_ok-insert w ↦ rw w.read-is (run_noted c.args.size c.args.rows.at c.args.rows.count (c.loop-end.end - 1) c.place_of-at.result is_read c.loop-end.read w.insert.new.self c.place_of-at.ensures.value (omega (arith, c.loop-end-test.true, c.loop-end.invariant.0)) w.in_ok-insert.ensures.updates.0 each (c.loop-end.invariant.1 is_read was each))
    | else-before-last w ↦ rw w.read-is (c.loop-end.invariant.1 is_read was each)
  ],
)
