use Rattle.std.proofs.Common.{◌-◌, arith, sym}
use Rattle.blz_ranges.proofs.Backward.{stop_by_group, stop_by_reach, stop_at_start, found_last, goes_back, reach_is_end}
use Rattle.blz_ranges.proofs.ordered.last_before.Goals as goal

pub returns-then-entry-group-clause-best : goal.returns-then-entry-group-clause-best
returns-then-entry-group-clause-best g c = λ after start.
    stop_by_group _ _ _ after c.loop-at.at c.args.high c.in-Some.entry c.requires.ordered c.loop-at-test.true (sym c.in-Some.ensures.entry) c.if-entry-group.true c.loop-at.invariant.passed start

pub returns-then-entry-addr-clause-best : goal.returns-then-entry-addr-clause-best
returns-then-entry-addr-clause-best g c = λ after start.
    stop_by_reach _ _ _ after c.loop-at.at c.args.high c.in-Some.entry c.requires.ordered c.loop-at-test.true (sym c.in-Some.ensures.entry) c.if-entry-group.false c.if-entry-addr.true c.loop-at.invariant.passed start

pub returns-then-addr-entry-clause-best : goal.returns-then-addr-entry-clause-best
returns-then-addr-entry-clause-best g c = λ after start.
    found_last _ _ _ after c.loop-at.at c.args.high c.in-Some.entry c.requires.ordered c.loop-at-test.true (sym c.in-Some.ensures.entry) c.if-entry-group.false c.if-addr-entry.true c.loop-at.invariant.passed start

pub returns-clause-best : goal.returns-clause-best
returns-clause-best g c = λ after start. stop_at_start _ _ _ after c.loop-at.at c.args.high c.loop-at-test.false c.loop-at.invariant.passed start

pub loop-at-preserved : goal.loop-at-preserved
loop-at-preserved g c = record {
  passed = goes_back c.args.order.now c.args.skips.now c.args.group c.args.addr c.loop-at.at c.args.high c.step_back-at.result c.in-Some.entry c.requires.skips c.loop-at-test.true (omega arith) (sym c.in-Some.ensures.entry) c.if-addr-entry.false c.step_back-at.ensures.back c.loop-at.invariant.passed;
  later = omega arith;
  paid = λ chain. absurd (
      let k = reach_is_end c.args.order.now (c.loop-at.at - 1) c.in-Some.entry c.requires.ordered chain (sym c.in-Some.ensures.entry) in
      omega arith);
}
