use Rattle.std.proofs.Common.{refl, ◌∙◌, arith}
use Rattle.std.proofs.lemmas.Result.{err_from_is_err_and}
use Rattle.blz_rows.proofs.Splits.{units_over}
use Rattle.blz_listings.specs.Shown.{shown_of}
use Rattle.blz_listings.proofs.Gathering.{ended}
use Rattle.blz_listings.proofs.GatherSteps.{unit_on, unit_break, frame_break, units_begin}
use Rattle.blz_listings.proofs.gather.gathered.Goals as goal

pub returns-in_err-resolver : goal.returns-in_err-resolver
unfolding shown_of
returns-in_err-resolver g c =
    let p = err_from_is_err_and c.from_residual.result c.from_residual.ensures.1 in
    rw (p.1, p.2) (frame_break _ _ _ c.in_err-resolver.ensures.frame)

pub loop-unit-init : goal.loop-unit-init
loop-unit-init g c = record {
  so_far = units_begin _ _ c.unit_count-unit-end.result c.new-listing.result c.args.wanted c.new-listing.ensures c.in_ok-resolver.ensures.has_debug c.unit_count-unit-end.ensures;
  images = refl;
  has_debug = c.in_ok-resolver.ensures.has_debug;
}

pub loop-unit-preserved : goal.loop-unit-preserved
loop-unit-preserved g c = record {
  so_far = unit_on c.loop-unit.listing _ _ _ _ c.loop-unit.unit _ _ c.loop-unit.invariant.images c.loop-unit.invariant.has_debug (omega arith) c.in_ok-push_unit.ensures.value c.loop-unit.invariant.so_far;
  images = c.in_ok-push_unit.ensures.images ∙ c.loop-unit.invariant.images;
  has_debug = c.in_ok-push_unit.ensures.has_debug ∙ c.loop-unit.invariant.has_debug;
}

pub returns-in_err-push_unit : goal.returns-in_err-push_unit
unfolding shown_of
returns-in_err-push_unit g c =
    let p = err_from_is_err_and c.from_residual-in_err-push_unit.result c.from_residual-in_err-push_unit.ensures.1 in
    rw (p.1, p.2, ← c.in_ok-resolver.ensures.images) (unit_break _ c.loop-unit.listing _ _ _ c.loop-unit.unit _ _ c.loop-unit.invariant.images c.loop-unit.invariant.has_debug (omega arith) c.in_err-push_unit.ensures.value c.loop-unit.invariant.so_far)

pub returns : goal.returns
unfolding shown_of
returns g c =
    rw (← c.in_ok-resolver.ensures.images) (ended c.loop-unit.listing _ _ (units_over _ c.loop-unit.unit _ (rw c.in_ok-resolver.ensures.images c.in_ok-resolver.ensures.frame) (omega arith)) c.loop-unit.invariant.so_far)
