use Rattle.std.proofs.Common.{◌≡◌, ◌++◌, map}
use Rattle.blz_elf.specs.Infos.{info_view}
use Rattle.blz_listings.specs.FindTexts.{infos_text}
use Rattle.blz_listings.proofs.InfoSteps.{left}
use Rattle.blz_listings.proofs.find_texts.push_name.Given as goal

abbrev pub invariant-loop-info : goal.invariant-loop-info
invariant-loop-info l = l.out.items ++ left l.asked info_view l.infos l.info-index ≡ l.initial.out.items ++ infos_text l.asked (map info_view l.infos)
