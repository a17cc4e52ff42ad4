use Rattle.std.proofs.Common.{◌≡◌, ◌++◌, drop}
use Rattle.blz_info.specs.Contents.{section_view}
use Rattle.blz_units.specs.Sets.{named}
use Rattle.blz_units.proofs.announced.address_sets.append_named.Given as goal

abbrev pub invariant-loop-set : goal.invariant-loop-set
invariant-loop-set l = l.out.items ++ named (section_view l.aranges) l.start (drop l.set-index l.sets) ≡ l.initial.out.items ++ named (section_view l.aranges) l.start l.sets
