use Rattle.std.proofs.Common.{◌∙◌}
use Rattle.blz_rows.proofs.TextSteps.{text_step}
use Rattle.blz_rows.proofs.text.places_text.Goals as goal

pub loop-place-preserved : goal.loop-place-preserved
loop-place-preserved c =
    text_step c.loop-place.out.items c.push_hex.new.out.items c.push.new.self.items c.args.places.now c.loop-place.place-index _ c.loop-place-test.true c.in_ok-push_hex.ensures.ok c.in_ok-push.ensures.items
    ∙ c.loop-place.invariant
