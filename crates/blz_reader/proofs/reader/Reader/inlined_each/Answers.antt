use Rattle.std.proofs.Common.{map}
use Rattle.std.proofs.lemmas.List.{map-append}
use Rattle.blz_model.proofs.PartLemmas.{all_on, all_break, all_end}
use Rattle.blz_reader.specs.SiteViews.{inlined_read, inlined_view}
use Rattle.blz_reader.proofs.CacheSteps.{fills_again}
use Rattle.blz_reader.proofs.SiteSteps.{get_or_again}
use Rattle.blz_reader.proofs.reader.Reader.inlined_each.Goals as goal

pub returns-in-Err-clause-value : goal.returns-in-Err-clause-value
returns-in-Err-clause-value g c =
    let by = inlined_read c.args.self.now c.args.number in
    λ ne. all_break by c.args.calls.now c.loop-call.call-index (map inlined_view c.loop-call.sites.items) _ _ c.loop-call-test.true (get_or_again c.args.calls.now c.loop-call.call-index _ c.loop-call-test.true) (c.in-Err.ensures.value ne) c.loop-call.invariant.rest

pub returns-clause-value : goal.returns-clause-value
returns-clause-value g c =
    let by = inlined_read c.args.self.now c.args.number in
    rw c.from_vec.ensures (all_end by c.args.calls.now c.loop-call.call-index (map inlined_view c.loop-call.sites.items) c.loop-call-test.false c.loop-call.invariant.rest)

pub loop-call-preserved : goal.loop-call-preserved
loop-call-preserved g c =
    let by = inlined_read c.args.self.now c.args.number in
    record {
      fills = fills_again _ _ _ _ _ c.loop-call.invariant.fills c.inlined.ensures.fills;
      rest = rw (c.in_ok-push-in-Ok.ensures.items, map-append inlined_view c.loop-call.sites.items _) (all_on by c.args.calls.now c.loop-call.call-index (map inlined_view c.loop-call.sites.items) _ _ c.loop-call-test.true (get_or_again c.args.calls.now c.loop-call.call-index _ c.loop-call-test.true) c.in-Ok.ensures.value c.loop-call.invariant.rest);
    }

pub returns-in_err-push-in-Ok-clause-fills : goal.returns-in_err-push-in-Ok-clause-fills
returns-in_err-push-in-Ok-clause-fills g c = fills_again _ _ _ _ _ c.loop-call.invariant.fills c.inlined.ensures.fills

pub returns-in-Err-clause-fills : goal.returns-in-Err-clause-fills
returns-in-Err-clause-fills g c = fills_again _ _ _ _ _ c.loop-call.invariant.fills c.inlined.ensures.fills
