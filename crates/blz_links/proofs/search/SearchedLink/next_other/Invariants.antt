use Rattle.std.proofs.Common.{◌≡◌, ◌≤◌, length}
use Rattle.blz_links.specs.Stages.{others_at, paths_at}
use Rattle.blz_links.proofs.search.SearchedLink.next_other.Given as goal

abbrev pub invariant-loop-found : goal.invariant-loop-found
invariant-loop-found l = record {
  others : others_at l.self l.stage ≡ others_at l.self l.initial.stage;
  fewer : length (paths_at l.self l.stage) ≤ length (paths_at l.self l.initial.stage);
}

abbrev pub decreases-loop-found : goal.decreases-loop-found
decreases-loop-found l = length (paths_at l.self l.stage)
