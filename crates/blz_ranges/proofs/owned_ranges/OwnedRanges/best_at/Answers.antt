use Rattle.std.proofs.Common.{sym, ap, ◌∙◌, List}
use Rattle.blz_ranges.specs.declared.span.Span.{Span}
use Rattle.blz_ranges.specs.Best.{best}
use Rattle.blz_ranges.specs.Groups.{AreApart}
use Rattle.blz_ranges.proofs.OwnedItems.{items_owned, cost_owned}
use Rattle.blz_ranges.proofs.owned_ranges.OwnedRanges.best_at.Goals as goal

pub returns-clause-best : goal.returns-clause-best
returns-clause-best g c = rw (← c.self.view_is) (c.best_at.ensures.best ∙ ap (λ (l : List Span). best l c.args.addr) (sym (items_owned c.self.inside.index.spans c.self.inside.owners.items c.self.invariant)))

pub returns-clause-cost : goal.returns-clause-cost
returns-clause-cost g c = rw (← c.self.view_is) (λ ordered apart. cost_owned AreApart c.self.inside.index.spans c.self.inside.owners.items _ c.self.invariant apart (c.best_at.ensures.cost ordered))
