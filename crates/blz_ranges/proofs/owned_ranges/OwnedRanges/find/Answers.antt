use Rattle.std.proofs.Common.{◌≡◌, List, Some, None, sym, ap, ◌∙◌}
use Rattle.blz_ranges.specs.declared.span.Span.{Span}
use Rattle.blz_ranges.specs.Best.{best}
use Rattle.blz_ranges.specs.Owned.{items_of}
use Rattle.blz_ranges.specs.Ranges.{owner_of}
use Rattle.blz_ranges.proofs.OwnedItems.{items_owned}
use Rattle.blz_ranges.proofs.owned_ranges.OwnedRanges.find.Goals as goal

pub returns-in-Some : goal.returns-in-Some
returns-in-Some c =
    let found : Some c.in-Some.place ≡ best (items_of c.args.self.now.ranges) c.args.addr = rw (← c.self.view_is) (c.in-Some.ensures ∙ ap (λ (l : List Span). best l c.args.addr) (sym (items_owned c.self.inside.index.spans c.self.inside.owners.items c.self.invariant))) in
    c.owner.ensures ∙ ap (owner_of c.args.self.now.ranges) found

pub returns-in-None : goal.returns-in-None
returns-in-None c =
    let found : None ≡ best (items_of c.args.self.now.ranges) c.args.addr = rw (← c.self.view_is) (c.in-None.ensures ∙ ap (λ (l : List Span). best l c.args.addr) (sym (items_owned c.self.inside.index.spans c.self.inside.owners.items c.self.invariant))) in
    ap (owner_of c.args.self.now.ranges) found
