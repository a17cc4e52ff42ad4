use Rattle.std.proofs.Common.{arith, sym, ◌∙◌}
use Rattle.blz_ranges.specs.Best.{passes}
use Rattle.blz_ranges.proofs.Scanning.{scanned}
use Rattle.blz_ranges.proofs.group_index.scan.Goals as goal

pub loop-at-preserved : goal.loop-at-preserved
loop-at-preserved g c = record {
  later = omega arith;
  within = omega arith;
  best_is = c.preferred-best.ensures ∙ scanned c.args.list.now c.args.group (passes c.args.addr c.args.after.now) c.loop-at.at c.in-Some.range c.loop-at.best c.loop-at-test.true (sym c.in-Some.ensures.entry) c.loop-at.invariant.best_is;
}
