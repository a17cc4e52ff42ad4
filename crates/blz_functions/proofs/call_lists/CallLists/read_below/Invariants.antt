use Rattle.std.proofs.Common.{◌≡◌, ◌-◌, []}
use Rattle.blz_model.specs.Reads.{◌>>=◌}
use Rattle.blz_functions.specs.CallTree.{calls_from}
use Rattle.blz_functions.specs.Leaves.{source_in}
use Rattle.blz_functions.specs.Opened.{open_view}
use Rattle.blz_functions.proofs.CallSteps.{calls_rest, first}
use Rattle.blz_functions.proofs.call_lists.CallLists.read_below.Given as goal

abbrev pub invariant-loop-entries : goal.invariant-loop-entries
invariant-loop-entries g l = record {
  pending : l.entries.pending ≡ [];
  source : l.entries.source ≡ source_in (open_view l.unit);
  same : g.F.Links.linkage l.links ≡ g.F.Links.linkage l.fn.links;
  rest : (calls_rest (g.F.Links.refer (g.F.Links.linkage l.fn.links)) (open_view l.unit) l.levels (l.lists, l.entries.place) >>= first) ≡ calls_from (g.F.Links.refer (g.F.Links.linkage l.fn.links)) (open_view l.unit) l.fn.entries.place;
}

abbrev pub decreases-loop-entries : goal.decreases-loop-entries
decreases-loop-entries g l = l.unit.header.end - l.entries.place
