use Rattle.std.proofs.Common.{◌≡◌, reverse, drop}
use Rattle.blz_bytes.specs.Joined.{joined}
use Rattle.blz_rows.proofs.Reaching.{reaches}
use Rattle.blz_rows.proofs.paths.path_matches.Given as goal

abbrev pub invariant-loop-index : goal.invariant-loop-index
invariant-loop-index l = reaches (drop l.index (reverse (joined l.dir l.file))) (drop l.index (reverse l.name)) ≡ reaches (reverse (joined l.dir l.file)) (reverse l.name)
