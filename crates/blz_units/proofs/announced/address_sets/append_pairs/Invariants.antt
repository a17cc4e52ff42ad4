use Rattle.std.proofs.Common.{◌≡◌, ◌++◌, length}
use Rattle.blz_entry.specs.AddressSets.{pairs_of}
use Rattle.blz_info.specs.Contents.{section_view}
use Rattle.blz_units.proofs.announced.address_sets.append_pairs.Given as goal

abbrev pub invariant-loop-span : goal.invariant-loop-span
invariant-loop-span l = l.out.items ++ pairs_of (section_view l.aranges) l.set ≡ l.initial.out.items ++ pairs_of (section_view l.aranges) l.initial.set

abbrev pub decreases-loop-span : goal.decreases-loop-span
decreases-loop-span l = length (pairs_of (section_view l.aranges) l.set)
