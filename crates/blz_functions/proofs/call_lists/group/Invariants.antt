use Rattle.std.proofs.Common.{◌≡◌, ◌++◌, map, take}
use Rattle.blz_ranges.specs.Groups.{grouped}
use Rattle.blz_functions.proofs.call_lists.group.Given as goal

abbrev pub invariant-loop-span : goal.invariant-loop-span
invariant-loop-span l = l.ranges.items ≡ l.fn.ranges.items ++ map (grouped l.group) (take l.span-index l.spans)
