use Rattle.std.proofs.Common.{◌-◌, None, arith, ◌∙◌}
use Rattle.blz_ranges.proofs.Backward.{start_at}
use Rattle.blz_ranges.proofs.Halving.{looked}
use Rattle.blz_ranges.proofs.Carried.{best_found_in, chained}
use Rattle.blz_ranges.proofs.group_index.GroupIndex.best_in.Goals as goal

pub returns-then-self-clause-best : goal.returns-then-self-clause-best
returns-then-self-clause-best g c =
    let index = c.self.invariant.index c.if-self.true in
    rw (← c.self.view_is) (c.place_found.ensures ∙ best_found_in c.self.inside.list c.self.inside.order c.args.group c.args.addr _ index (c.last_before.ensures.best None (start_at c.self.inside.order c.args.group c.args.addr c.split-high.result (rw c.at.ensures at c.split-high.ensures.place))))

pub returns-then-self-clause-cost : goal.returns-then-self-clause-cost
returns-then-self-clause-cost g c = rw (← c.self.view_is) (λ ordered apart.
    let index = c.self.invariant.index c.if-self.true in
    let one = c.last_before.ensures.cost (chained _ _ index apart) in
    let a = c.split-high.ensures.later in
    let b = c.last_before.ensures.later in
    looked (c.split-high.new.steps - c.args.steps.now) _ _ _ (omega arith) c.split-high.ensures.cost index.same)
