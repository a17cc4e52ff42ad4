use Rattle.std.proofs.Common.{◌≡◌, map, drop}
use Rattle.std.specs.Option.{option_map}
use Rattle.blz_model.specs.Part.{all_good}
use Rattle.blz_model.proofs.PartLemmas.{after_front}
use Rattle.blz_elf.specs.Infos.{info_view, info_of}
use Rattle.blz_symbols.specs.NameSteps.{named_view}
use Rattle.blz_elf.proofs.infos.infos.Given as goal

abbrev pub invariant-loop-named : goal.invariant-loop-named
invariant-loop-named l = after_front (map info_view l.items.items) (all_good (map (info_of l.image (option_map (λ m. m.now) l.module_name) l.with_place) (drop l.named-index (map named_view l.listed)))) ≡ all_good (map (info_of l.image (option_map (λ m. m.now) l.module_name) l.with_place) (map named_view l.listed))
