use Rattle.std.proofs.Common.{◌≡◌, ◌-◌, length}
use Rattle.blz_info.specs.Contents.{section_view}
use Rattle.blz_units.specs.Sets.{sets_from}
use Rattle.blz_units.proofs.SetLists.{put_before}
use Rattle.blz_units.proofs.announced.address_sets.sets_of.Given as goal

abbrev pub invariant-loop-sets : goal.invariant-loop-sets
invariant-loop-sets l = record {
  section : l.list.section ≡ section_view l.fn.aranges;
  rest : put_before l.sets.items (sets_from (section_view l.fn.aranges) l.list.place) ≡ sets_from (section_view l.fn.aranges) 0;
}

abbrev pub decreases-loop-sets : goal.decreases-loop-sets
decreases-loop-sets l = length l.list.section.bytes - l.list.place
