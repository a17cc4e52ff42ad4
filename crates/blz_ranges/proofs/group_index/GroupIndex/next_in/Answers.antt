use Rattle.std.proofs.Common.{Some, sym, ◌∙◌, ap}
use Rattle.blz_ranges.specs.Best.{place_of}
use Rattle.blz_ranges.proofs.Backward.{start_after}
use Rattle.blz_ranges.proofs.Carried.{next_found, next_scanned}
use Rattle.blz_ranges.proofs.group_index.GroupIndex.next_in.Goals as goal

pub returns-then-self-clause-next : goal.returns-then-self-clause-next
returns-then-self-clause-next g c =
    let index = c.self.invariant.index c.if-self.true in
    rw (← c.self.view_is) (c.place_found.ensures ∙ next_found c.self.inside.list c.self.inside.order c.args.group c.args.addr c.args.bound c.in-Some.range _ index (sym c.in-Some.ensures.entry)
    (c.last_before.ensures.best (Some (record { place = c.args.bound; span = c.in-Some.range.span })) (start_after c.self.inside.order c.args.group c.args.addr c.split-high.result (record { place = c.args.bound; span = c.in-Some.range.span }) (rw c.after-target.ensures at c.split-high.ensures.place))))

pub returns-else-self-clause-next : goal.returns-else-self-clause-next
returns-else-self-clause-next g c =
    rw (← c.self.view_is) (next_scanned c.self.inside.list c.args.group c.args.addr c.args.bound c.in-Some.range _ (sym c.in-Some.ensures.entry) (c.place_of.ensures ∙ ap place_of c.scan.ensures.best))
