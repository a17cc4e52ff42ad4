use Rattle.std.proofs.Common.{◌≡◌, ◌++◌, ◌-◌}
use Rattle.blz_functions.specs.Chain.{at_depth, picked}
use Rattle.blz_functions.proofs.inlined_functions.InlinedFunctions.chain.Given as goal

abbrev pub invariant-loop-depth : goal.invariant-loop-depth
invariant-loop-depth g l = l.chain.items ++ picked (at_depth l.self.ranges l.addr) (l.limit - l.depth) l.depth ≡ picked (at_depth l.self.ranges l.addr) l.limit 0
