use Rattle.std.proofs.Common.{◌≡◌, ◌++◌, drop}
use Rattle.blz_ranges.specs.Sorted.{in_order}
use Rattle.blz_ranges.proofs.grouped.in_order.Given as goal

abbrev pub invariant-loop-place : goal.invariant-loop-place
invariant-loop-place l = l.order.items ++ in_order l.list l.group l.reach (drop l.place-index l.places) ≡ in_order l.list 0 0 l.places
