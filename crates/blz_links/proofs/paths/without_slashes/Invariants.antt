use Rattle.std.proofs.Common.{◌≡◌, ◌≤◌, length}
use Rattle.blz_links.specs.Paths.{without_slashes}
use Rattle.blz_links.proofs.paths.without_slashes.Given as goal

abbrev pub invariant-loop-end : goal.invariant-loop-end
invariant-loop-end l = record {
  within : l.end ≤ length l.path;
  same : without_slashes l.path l.end ≡ without_slashes l.path l.initial.end;
}

abbrev pub decreases-loop-end : goal.decreases-loop-end
decreases-loop-end l = l.end
