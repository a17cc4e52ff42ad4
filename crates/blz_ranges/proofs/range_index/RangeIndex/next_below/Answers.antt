use Rattle.std.proofs.Common.{◌∙◌}
use Rattle.blz_ranges.proofs.Alone.{next_alone}
use Rattle.blz_ranges.proofs.range_index.RangeIndex.next_below.Goals as goal

pub returns-clause-next : goal.returns-clause-next
returns-clause-next g c = rw (← c.self.view_is) (c.next_in.ensures.next ∙ next_alone 0 c.self.inside.index.list c.args.addr c.args.bound c.self.invariant)
