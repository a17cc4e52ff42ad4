use Rattle.std.proofs.Common.{take}
use Rattle.blz_info.proofs.RunsMade.{AreMade}
use Rattle.blz_info.proofs.walking.runs.Runs.of.Given as goal

abbrev pub invariant-loop-spec : goal.invariant-loop-spec
invariant-loop-spec l = AreMade l.reading l.encoding l.runs.items l.tail l.count (take l.spec-index l.specs)
