use Rattle.std.proofs.Common.{◌++◌, ap, ◌∙◌, arith, map}
use Rattle.std.proofs.lemmas.List.{length-map}
use Rattle.blz_elf.specs.Infos.{info_view}
use Rattle.blz_program.proofs.Cuts.{not_empty}
use Rattle.blz_listings.proofs.InfoSteps.{info_on, infos_ended, told}
use Rattle.blz_listings.proofs.find_texts.push_name.Goals as goal

pub loop-info-preserved : goal.loop-info-preserved
loop-info-preserved c =
    info_on c.args.asked info_view c.args.infos.now c.loop-info.info-index _ c.loop-info.out.items c.push_info.new.out.items _ c.loop-info-test.true
    c.in_ok-push_info.ensures c.loop-info.invariant

pub returns : goal.returns
returns c =
    infos_ended c.args.asked info_view c.args.infos.now c.loop-info.info-index c.loop-info.out.items _ (omega arith) c.loop-info.invariant
    ∙ ap (λ text. c.args.out.now.items ++ text) (told c.args.asked c.args.name.now (map info_view c.args.infos.now) (omega (arith, length-map c.args.infos.now info_view, not_empty _ _ c.is_empty.ensures c.if-is_empty.false)))
