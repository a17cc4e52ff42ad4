use Rattle.std.proofs.Common.{◌-◌, arith, sym, ◌∙◌}
use Rattle.blz_ranges.proofs.Halving.{halves, all_below, all_above}
use Rattle.blz_ranges.proofs.ordered.split.Goals as goal

pub loop-low-preserved-then-is_below : goal.loop-low-preserved-then-is_below
loop-low-preserved-then-is_below g c = record {
  within = omega arith;
  inside = omega arith;
  later = omega arith;
  below = all_below _ _ _ c.in-Some.entry c.requires (sym c.in-Some.ensures.entry) (sym c.is_below.ensures ∙ c.if-is_below.true);
  above = c.loop-low.invariant.above;
  paid = halves (c.loop-low.steps - c.args.steps.now) _ (c.loop-low.high - c.loop-low.low) _ _ (omega arith) (omega arith) (omega arith) c.loop-low.invariant.paid;
}

pub loop-low-preserved : goal.loop-low-preserved
loop-low-preserved g c = record {
  within = omega arith;
  inside = omega arith;
  later = omega arith;
  below = c.loop-low.invariant.below;
  above = all_above _ _ _ c.in-Some.entry c.requires (sym c.in-Some.ensures.entry) (sym c.is_below.ensures ∙ c.if-is_below.false);
  paid = halves (c.loop-low.steps - c.args.steps.now) _ (c.loop-low.high - c.loop-low.low) _ _ (omega arith) (omega arith) (omega arith) c.loop-low.invariant.paid;
}

pub returns-clause-place : goal.returns-clause-place
returns-clause-place g c = record {
  within = omega arith;
  below = c.loop-low.invariant.below;
  above = λ i e le is. c.loop-low.invariant.above i e (omega arith) is;
}
