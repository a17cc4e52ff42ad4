use Rattle.std.proofs.Common.{◌∙◌}
use Rattle.blz_units.proofs.TurnSteps.{first_place, after_place}
use Rattle.blz_units.proofs.announced.announcers.next_place.Goals as goal

pub returns-in-First-clause-place : goal.returns-in-First-clause-place
returns-in-First-clause-place g c = rw c.in-First.is (c.best_at.ensures.best ∙ first_place c.args.announced.now.ranges c.args.addr)

pub returns-in-After-clause-place : goal.returns-in-After-clause-place
returns-in-After-clause-place g c = rw c.in-After.is (c.next_below.ensures.next ∙ after_place c.args.announced.now.ranges c.args.addr c.in-After.place (rw c.in-After.is at c.requires))
