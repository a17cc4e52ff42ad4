use Rattle.std.proofs.Common.{◌≡◌, ◌++◌, map}
use Rattle.blz_elf.specs.OwnedInfos.{owned_view}
use Rattle.blz_listings.specs.FindTexts.{infos_text}
use Rattle.blz_listings.proofs.InfoSteps.{left}
use Rattle.blz_listings.proofs.addresses.infos_text.Given as goal

abbrev pub invariant-loop-info : goal.invariant-loop-info
invariant-loop-info l = l.out.items ++ left l.asked owned_view l.infos l.info-index ≡ infos_text l.asked (map owned_view l.infos)
