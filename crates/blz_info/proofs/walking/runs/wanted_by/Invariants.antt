use Rattle.std.proofs.Common.{◌≤◌, length}
use Rattle.blz_info.specs.Contents.{section_view}
use Rattle.blz_info.proofs.RunSteps.{Searching}
use Rattle.blz_info.proofs.walking.runs.wanted_by.Given as goal

abbrev pub invariant-loop-index : goal.invariant-loop-index
invariant-loop-index l = record {
  ahead : l.at ≤ l.place;
  within : l.at ≤ length l.section.bytes.now → l.place ≤ length l.section.bytes.now;
  rest : Searching l.encoding l.runs l.tail l.pending l.fn.base (section_view l.section) l.at l.index l.count l.place;
}
