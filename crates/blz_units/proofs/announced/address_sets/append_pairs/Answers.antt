use Rattle.std.proofs.Common.{length, ap, arith}
use Rattle.blz_units.proofs.Named.{span_more, span_over}
use Rattle.blz_units.proofs.announced.address_sets.append_pairs.Goals as goal

pub loop-span-smaller : goal.loop-span-smaller
loop-span-smaller c = let k = ap length c.in-Some.ensures.value in omega arith

pub loop-span-preserved : goal.loop-span-preserved
loop-span-preserved c = rw c.in_ok-push.ensures.items (span_more _ c.in-Some.span _ _ _ c.in-Some.ensures.value c.loop-span.invariant)

pub returns : goal.returns
returns c = span_over _ _ _ c.in_default.ensures.value c.loop-span.invariant
