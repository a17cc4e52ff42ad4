use Rattle.std.proofs.Common.{◌≡◌, ◌≤◌, length, drop}
use Rattle.blz_info.specs.Contents.{section_view}
use Rattle.blz_info.specs.Wanted.{wanted_in}
use Rattle.blz_info.proofs.walking.wanted.wanted_in.Given as goal

abbrev pub invariant-loop-index : goal.invariant-loop-index
invariant-loop-index l = record {
  ahead : l.at ≤ l.place;
  within : l.at ≤ length l.section.bytes.now → l.place ≤ length l.section.bytes.now;
  rest : wanted_in (drop l.index l.specs) l.encoding l.fn.base (section_view l.section) l.place ≡ wanted_in l.specs l.encoding l.fn.base (section_view l.section) l.at;
}
