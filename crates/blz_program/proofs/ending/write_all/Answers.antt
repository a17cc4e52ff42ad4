use Rattle.std.proofs.Common.{arith}
use Rattle.blz_program.proofs.Written.{started, goes_on}
use Rattle.blz_program.proofs.ending.write_all.Goals as goal

pub loop-rest-init : goal.loop-rest-init
loop-rest-init g c = record { written = started _ _; count = omega arith }

pub loop-rest-preserved : goal.loop-rest-preserved
loop-rest-preserved g c = record {
  written = goes_on _ _ _ _ _ _ c.loop-rest.invariant.written c.in_ok-count.ensures.most c.in_ok-count.ensures.taken;
  count = omega (arith, c.loop-rest.invariant.count, c.put.ensures.cause.later);
}
