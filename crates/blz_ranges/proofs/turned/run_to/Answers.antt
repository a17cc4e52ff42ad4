use Rattle.std.proofs.Common.{arith, sym, ◌∙◌}
use Rattle.blz_ranges.proofs.Turning.{tells_alike, one_alike, one_more_alike}
use Rattle.blz_ranges.proofs.turned.run_to.Goals as goal

pub loop-to-init : goal.loop-to-init
loop-to-init c = record {
  some = omega arith;
  within = omega arith;
  alike = λ i a b. one_alike c.args.keys.now c.args.places.now c.args.from i a b;
}

pub loop-to-preserved : goal.loop-to-preserved
loop-to-preserved c = record {
  some = let a = c.loop-to.invariant.some in omega arith;
  within = omega arith;
  alike = λ i a b. one_more_alike c.args.keys.now c.args.places.now c.args.from c.loop-to.to i c.loop-to.invariant.alike (rw (c.key_in.ensures, c.key_in-first.ensures) at (tells_alike c.key_in.result c.key_in-first.result (sym c.are_alike.ensures ∙ c.if-not-are_alike.false))) a b;
}
