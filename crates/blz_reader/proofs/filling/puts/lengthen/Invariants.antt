use Rattle.std.proofs.Common.{◌≡◌, ◌-◌, ◌+◌, ℕ, length}
use Rattle.std.specs.List.{slice_get}
use Rattle.blz_units.specs.KeptParts.{or_empty}
use Rattle.blz_reader.proofs.filling.puts.lengthen.Given as goal

abbrev pub invariant-loop-room : goal.invariant-loop-room
invariant-loop-room l = (n : ℕ) → or_empty (slice_get l.calls.items n) ≡ or_empty (slice_get l.fn.calls.items n)

abbrev pub decreases-loop-room : goal.decreases-loop-room
decreases-loop-room l = l.number + 1 - length l.calls.items
