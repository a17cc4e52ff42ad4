use Rattle.std.proofs.Common.{sym, ap, ◌∙◌, List}
use Rattle.blz_ranges.specs.declared.grouped.Grouped.{Grouped}
use Rattle.blz_functions.specs.Chain.{owner_found}
use Rattle.blz_ranges.specs.Owned.{owned}
use Rattle.blz_ranges.specs.Groups.{best_in, AreApartInGroups}
use Rattle.blz_ranges.proofs.OwnedItems.{items_owned, cost_owned}
use Rattle.blz_functions.proofs.inlined_functions.InlinedFunctions.at_depth.Goals as goal

pub returns-clause-best : goal.returns-clause-best
returns-clause-best g c =
    c.owner.ensures ∙ (ap (owner_found c.args.self.now.ranges) c.best_in-place.ensures.best ∙ rw (← c.self.view_is) (ap (λ (l : List Grouped). owner_found (owned c.self.inside.index.list c.self.inside.owners.items) (best_in l c.args.depth c.args.addr)) (sym (items_owned c.self.inside.index.list c.self.inside.owners.items c.self.invariant))))

pub returns-clause-cost : goal.returns-clause-cost
returns-clause-cost g c = rw (← c.self.view_is) (λ ordered apart. cost_owned AreApartInGroups c.self.inside.index.list c.self.inside.owners.items _ c.self.invariant apart (c.best_in-place.ensures.cost ordered))
