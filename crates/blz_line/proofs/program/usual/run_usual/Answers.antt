use Rattle.std.proofs.Common.{sym, arith}
use Rattle.blz_line.proofs.UsualSteps.{row_more, set_more}
use Rattle.blz_line.proofs.program.usual.run_usual.Goals as goal

pub loop-offset-preserved-in-Some : goal.loop-offset-preserved-in-Some
loop-offset-preserved-in-Some c = record {
  within = omega arith;
  before = row_more _ _ _ _ _ _ c.loop-offset.given _ _ c.in-Some.ensures (rw c.registers.ensures at c.in_ok-make_row.ensures) (omega arith) c.loop-offset.invariant.before;
}

pub loop-offset-preserved : goal.loop-offset-preserved
loop-offset-preserved c = record {
  within = c.in-Some-set_by.ensures.within.1;
  before = set_more _ _ _ _ _ _ _ _ _ (sym c.in-Some-set_by.ensures.value) (omega arith) (omega arith) (omega (arith, c.in-Some-set_by.ensures.within)) c.in-Some-set_by.ensures.within.1 c.loop-offset.invariant.before;
}
