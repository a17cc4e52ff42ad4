use Rattle.std.proofs.Common.{ℕ, ap, length, length-append, refl, arith}
use Rattle.blz_ranges.proofs.Turning.{next_behind, no_run, with_image}
use Rattle.blz_ranges.proofs.turned.turned.Goals as goal

pub loop-at-init : goal.loop-at-init
loop-at-init c = record {
  behind = no_run _ _ _ refl;
  same = ap length c.in_ok-turned.ensures.items;
  each = λ i lt. absurd (omega arith);
}

pub loop-at-preserved : goal.loop-at-preserved
loop-at-preserved c = record {
  behind = next_behind _ _ _ _ c.run_at-run.ensures;
  same = omega (arith, ap length c.in_ok-push.ensures.items, length-append {A = ℕ});
  each = with_image _ _ c.loop-at.turned.items _ c.loop-at.at _ _ c.run_at-run.ensures c.loop-at.invariant.same c.place_at.ensures c.in_ok-push.ensures.items c.loop-at.invariant.each;
}
