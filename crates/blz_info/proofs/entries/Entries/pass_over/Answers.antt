use Rattle.std.proofs.Common.{suc, zero, refl, arith}
use Rattle.blz_info.proofs.PassingSteps.{none_past, past_more}
use Rattle.blz_info.proofs.entries.Entries.pass_over.Goals as goal

pub loop-next-init : goal.loop-next-init
loop-next-init c = record {
  low = c.self.invariant.low;
  ahead = rw (← c.self.view_is) (omega arith);
  passed = (zero, none_past c.args.passing c.args.tag _ _ c.args.self.now c.requires (rw (← c.self.view_is) refl) (rw (← c.self.view_is) refl));
}

pub loop-next-preserved : goal.loop-next-preserved
loop-next-preserved c =
    let k = c.loop-next.invariant in
    record {
      low = c.in-Some.ensures.ahead.2;
      ahead = let lt = c.in-Some.ensures.ahead.0 in let le = k.ahead in omega arith;
      passed = (suc k.passed.0, past_more c.args.passing c.args.tag k.passed.0 _ _ _ k.passed.1 c.in-Some.ensures.value);
    }
