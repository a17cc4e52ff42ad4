use Rattle.std.proofs.Common.{◌≡◌, ◌-◌, []}
use Rattle.blz_functions.specs.FunctionList.{lists_from, unit_lists}
use Rattle.blz_functions.specs.Leaves.{source_in}
use Rattle.blz_functions.specs.Opened.{open_view}
use Rattle.blz_functions.proofs.function_lists.FunctionLists.read.Given as goal

abbrev pub invariant-loop-entry : goal.invariant-loop-entry
invariant-loop-entry g l = record {
  pending : l.entries.pending ≡ [];
  source : l.entries.source ≡ source_in (open_view l.unit);
  same : g.F.Links.linkage l.links ≡ g.F.Links.linkage l.fn.links;
  rest : lists_from (g.F.Links.refer (g.F.Links.linkage l.fn.links)) (open_view l.unit) l.lists l.entries.depth l.entries.place ≡ unit_lists (g.F.Links.refer (g.F.Links.linkage l.fn.links)) (open_view l.unit);
}

abbrev pub decreases-loop-entry : goal.decreases-loop-entry
decreases-loop-entry g l = l.unit.header.end - l.entries.place
