use Rattle.std.proofs.Common.{◌^◌, ◌-◌, ◌∙◌}
use Rattle.blz_ranges.proofs.Alone.{best_alone, cost_alone}
use Rattle.blz_ranges.proofs.range_index.RangeIndex.best_at.Goals as goal

pub returns-clause-best : goal.returns-clause-best
returns-clause-best g c = rw (← c.self.view_is) (c.best_in.ensures.best ∙ best_alone 0 c.self.inside.index.list c.args.addr c.self.invariant)

pub returns-clause-cost : goal.returns-clause-cost
returns-clause-cost g c = rw (← c.self.view_is) (λ ordered apart. cost_alone 0 c.self.inside.index.list (2 ^ (c.best_in.new.steps - c.args.steps.now)) c.self.invariant apart (c.best_in.ensures.cost ordered))
