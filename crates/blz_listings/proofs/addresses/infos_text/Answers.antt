use Rattle.std.proofs.Common.{◌++◌, ap, ◌∙◌}
use Rattle.blz_elf.specs.OwnedInfos.{owned_view}
use Rattle.blz_listings.specs.FindTexts.{info_text}
use Rattle.blz_listings.proofs.InfoSteps.{info_on}
use Rattle.blz_listings.proofs.addresses.infos_text.Goals as goal

pub loop-info-preserved : goal.loop-info-preserved
loop-info-preserved c =
    info_on c.args.asked owned_view c.args.infos.now c.loop-info.info-index c.info-item.result c.loop-info.out.items c.push_info.new.out.items _ c.loop-info-test.true
    (c.in_ok-push_info.ensures ∙ ap (λ i. c.loop-info.out.items ++ info_text c.args.asked i) (c.as_info.ensures ∙ ap owned_view c.info-item.is)) c.loop-info.invariant
