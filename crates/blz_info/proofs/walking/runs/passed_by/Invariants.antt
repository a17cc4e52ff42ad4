use Rattle.std.proofs.Common.{◌≡◌, ◌≤◌, length, drop}
use Rattle.blz_info.specs.Contents.{section_view}
use Rattle.blz_info.specs.AttributeRuns.{passed_by}
use Rattle.blz_info.proofs.walking.runs.passed_by.Given as goal

abbrev pub invariant-loop-run : goal.invariant-loop-run
invariant-loop-run l = record {
  ahead : l.at ≤ l.place;
  within : l.at ≤ length l.section.bytes.now → l.place ≤ length l.section.bytes.now;
  rest : passed_by (drop l.run-index l.runs) l.tail l.encoding (section_view l.section) l.place ≡ passed_by l.runs l.tail l.encoding (section_view l.section) l.at;
}
