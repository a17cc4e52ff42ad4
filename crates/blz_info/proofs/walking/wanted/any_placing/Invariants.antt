use Rattle.std.proofs.Common.{◌≡◌, drop}
use Rattle.blz_info.specs.Wanted.{any_placing}
use Rattle.blz_info.proofs.walking.wanted.any_placing.Given as goal

abbrev pub invariant-loop-spec : goal.invariant-loop-spec
invariant-loop-spec l = any_placing (drop l.spec-index l.specs) ≡ any_placing l.specs
