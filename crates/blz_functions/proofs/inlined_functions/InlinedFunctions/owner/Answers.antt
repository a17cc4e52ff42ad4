use Rattle.std.proofs.Common.{sym, ap, ◌∙◌, List, ℕ}
use Rattle.std.specs.List.{slice_get}
use Rattle.blz_ranges.proofs.OwnedItems.{owner_owned}
use Rattle.blz_functions.proofs.inlined_functions.InlinedFunctions.owner.Goals as goal

pub returns-in-Some : goal.returns-in-Some
returns-in-Some c = rw (← c.self.view_is, c.in-Some.is) (c.number_at.ensures ∙ (ap (λ (l : List ℕ). slice_get l c.in-Some.place) c.as_slice.ensures.value ∙ sym (owner_owned c.self.inside.index.list c.self.inside.owners.items c.in-Some.place c.self.invariant)))
