use Rattle.std.proofs.Common.{◌≡◌, ◌≤◌, length, drop}
use Rattle.blz_info.specs.Contents.{section_view}
use Rattle.blz_info.specs.Attributes.{passed}
use Rattle.blz_info.proofs.attributes.passed.Given as goal

abbrev pub invariant-loop-spec : goal.invariant-loop-spec
invariant-loop-spec l = record {
  ahead : l.at ≤ l.place;
  within : l.at ≤ length l.section.bytes.now → l.place ≤ length l.section.bytes.now;
  rest : passed (drop l.spec-index l.specs) l.encoding l.fn.base (section_view l.section) l.place ≡ passed l.specs l.encoding l.fn.base (section_view l.section) l.at;
}
