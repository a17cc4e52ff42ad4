use Rattle.std.proofs.Common.{sym, ap, ◌∙◌, List}
use Rattle.blz_ranges.specs.declared.span.Span.{Span}
use Rattle.blz_ranges.specs.Best.{next}
use Rattle.blz_ranges.proofs.OwnedItems.{items_owned, within_owned}
use Rattle.blz_ranges.proofs.owned_ranges.OwnedRanges.next_below.Goals as goal

pub next_below-requires : goal.next_below-requires
next_below-requires g c = within_owned c.self.inside.index.spans c.self.inside.owners.items c.args.self.now.ranges c.args.bound c.self.invariant (ap (λ v. v.ranges) c.self.view_is) c.requires

pub returns-clause-next : goal.returns-clause-next
returns-clause-next g c = rw (← c.self.view_is) (c.next_below.ensures.next ∙ ap (λ (l : List Span). next l c.args.addr c.args.bound) (sym (items_owned c.self.inside.index.spans c.self.inside.owners.items c.self.invariant)))
