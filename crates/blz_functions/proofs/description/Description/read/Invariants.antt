use Rattle.std.proofs.Common.{◌≡◌, ◌≤◌, length}
use Rattle.blz_functions.specs.Describing.{described, undescribed}
use Rattle.blz_functions.specs.Opened.{open_view}
use Rattle.blz_functions.proofs.description.Description.read.Given as goal

abbrev pub invariant-loop-found : goal.invariant-loop-found
invariant-loop-found g l = record {
  source : l.entries.source ≡ l.initial.entries.source;
  depth : l.entries.depth ≡ l.initial.entries.depth;
  ahead : l.initial.entries.place ≤ l.entries.place;
  same : g.F.Links.linkage l.links ≡ g.F.Links.linkage l.initial.links;
  rest : described (g.F.Links.refer (g.F.Links.linkage l.initial.links)) (open_view l.unit) l.description l.entries.pending l.entries.place ≡ described (g.F.Links.refer (g.F.Links.linkage l.initial.links)) (open_view l.unit) undescribed l.initial.entries.pending l.initial.entries.place;
}

abbrev pub decreases-loop-found : goal.decreases-loop-found
decreases-loop-found g l = length l.entries.pending
