use Rattle.std.proofs.Common.{sym, ◌∙◌}
use Rattle.blz_split.specs.Contributions.{is_slot_of}
use Rattle.blz_split.proofs.FirstIn.{first_behind}
use Rattle.blz_split.proofs.tables.Tables.find_slot.Goals as goal

pub loop-slot-preserved : goal.loop-slot-preserved
loop-slot-preserved c = first_behind (is_slot_of c.args.order c.args.index.now c.args.self.now c.args.id) c.args.self.now.slots c.loop-slot.slot _ c.loop-slot-test.true (sym c.is_slot_of.ensures ∙ c.if-is_slot_of.false) c.loop-slot.invariant
