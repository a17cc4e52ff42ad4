use Rattle.std.proofs.Common.{◌≡◌, ◌-◌}
use Rattle.blz_info.specs.Contents.{section_view}
use Rattle.blz_entry.specs.AddressSets.{pairs_from}
use Rattle.blz_entry.proofs.aranges.next_kept.Given as goal

abbrev pub invariant-loop-range : goal.invariant-loop-range
invariant-loop-range l = pairs_from l.end l.size (section_view l.section) l.place ≡ pairs_from l.end l.size (section_view l.section) l.at

abbrev pub decreases-loop-range : goal.decreases-loop-range
decreases-loop-range l = l.end - l.place
