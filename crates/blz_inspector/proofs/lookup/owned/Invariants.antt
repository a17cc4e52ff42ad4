use Rattle.std.proofs.Common.{◌≡◌, map, take}
use Rattle.blz_elf.specs.Infos.{info_view}
use Rattle.blz_elf.specs.OwnedInfos.{owned_view}
use Rattle.blz_inspector.proofs.lookup.owned.Given as goal

abbrev pub invariant-loop-info : goal.invariant-loop-info
invariant-loop-info l = record { copied : map owned_view l.items.items ≡ map info_view (take l.info-index l.shown) }
