use Rattle.std.proofs.Common.{◌≡◌, ◌-◌}
use Rattle.blz_split.specs.Contributions.{first_in, is_slot_of}
use Rattle.blz_split.proofs.tables.Tables.find_slot.Given as goal

abbrev pub invariant-loop-slot : goal.invariant-loop-slot
invariant-loop-slot l = first_in (is_slot_of l.order l.index l.self l.id) (l.self.slots - l.slot) l.slot ≡ first_in (is_slot_of l.order l.index l.self l.id) l.self.slots 0
