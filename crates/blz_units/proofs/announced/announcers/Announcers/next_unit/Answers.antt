use Rattle.std.proofs.Common.{ap, ◌∙◌}
use Rattle.std.specs.List.{slice_get}
use Rattle.blz_units.specs.Announced.{Announcing}
use Rattle.blz_units.proofs.TurnSteps.{turn_kept, unit_next, seen_behind}
use Rattle.blz_units.proofs.announced.announcers.Announcers.next_unit.Goals as goal

pub invariant_of-self : goal.invariant_of-self
invariant_of-self g c = rw c.turn_of-self-inside.ensures (turn_kept c.self.inside.announced.now.ranges c.self.inside.addr c.self.inside.turn c.self.invariant c.next_place-place.result c.next_place-place.ensures.place)

pub returns-clause-unit : goal.returns-clause-unit
returns-clause-unit g c =
    c.owner_of.ensures ∙ unit_next c.self.inside.announced.now.ranges c.self.inside.addr c.self.inside.turn c.self.invariant c.next_place-place.result c.next_place-place.ensures.place ∙ ap (λ (v : Announcing). slice_get v.left 0) c.self.view_is

pub returns-clause-left : goal.returns-clause-left
returns-clause-left g c =
    rw (← c.self.view_is, c.turn_of-self-inside.ensures) (seen_behind c.self.inside.announced.now c.self.inside.addr c.self.inside.turn c.self.invariant c.next_place-place.result c.next_place-place.ensures.place)
