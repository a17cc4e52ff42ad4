use Rattle.std.proofs.Common.{◌≡◌, sym, ap, ◌∙◌}
use Rattle.blz_functions.specs.CallTree.{CallLists}
use Rattle.blz_ranges.specs.Owned.{items_of}
use Rattle.blz_ranges.proofs.OwnedItems.{items_owned}
use Rattle.blz_functions.proofs.call_lists.CallLists.indexed.Goals as goal

pub returns-clause-accepted : goal.returns-clause-accepted
returns-clause-accepted g c =
    let x = c.self.inside in
    let same : items_of c.args.self.ranges ≡ x.ranges.items = ap (λ (l : CallLists). items_of l.ranges) (sym c.self.view_is) ∙ items_owned x.ranges.items x.owners.items c.self.invariant in
    rw same c.build.ensures.accepted
