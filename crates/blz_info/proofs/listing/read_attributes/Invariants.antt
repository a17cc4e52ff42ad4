use Rattle.std.proofs.Common.{◌≡◌, ◌≤◌, drop}
use Rattle.blz_info.specs.Attributes.{attributes}
use Rattle.blz_info.proofs.AttributeSteps.{behind_values}
use Rattle.blz_info.proofs.listing.read_attributes.Given as goal

abbrev pub invariant-loop-spec : goal.invariant-loop-spec
invariant-loop-spec l = record {
  left : l.entries.pending ≡ drop l.spec-index l.specs;
  source : l.entries.source ≡ l.fn.entries.source;
  depth : l.entries.depth ≡ l.fn.entries.depth;
  ahead : l.fn.entries.place ≤ l.entries.place;
  rest : behind_values l.found.items (attributes (drop l.spec-index l.specs) l.fn.entries.source.encoding l.fn.entries.source.base l.fn.entries.source.section l.entries.place) ≡ attributes l.specs l.fn.entries.source.encoding l.fn.entries.source.base l.fn.entries.source.section l.fn.entries.place;
}
