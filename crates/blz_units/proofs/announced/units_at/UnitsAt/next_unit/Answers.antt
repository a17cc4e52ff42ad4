use Rattle.std.proofs.Common.{ap, ◌∙◌, arith}
use Rattle.std.specs.List.{slice_get}
use Rattle.blz_units.specs.Announced.{Announcing}
use Rattle.blz_units.proofs.ToldUnits.{none_behind, none_first, not_noted, passed, seen_after, unit_behind, unit_first}
use Rattle.blz_units.proofs.announced.units_at.UnitsAt.next_unit.Goals as goal

pub returns-in_err-unit-clause-unit : goal.returns-in_err-unit-clause-unit
returns-in_err-unit-clause-unit g c =
    let l = c.loop-unit.self-inside in
    c.from_residual.ensures ∙ none_first l.told l.all.left _ c.in_err-unit.ensures.unit c.loop-unit.invariant.left ∙ ap (λ (v : Announcing). slice_get v.left 0) c.self.view_is

pub returns-in_err-unit-clause-left : goal.returns-in_err-unit-clause-left
returns-in_err-unit-clause-left g c =
    let l = c.loop-unit.self-inside in
    let behind = none_behind l.told l.all.left _ c.in_err-unit.ensures.unit c.loop-unit.invariant.left in
    rw (← c.self.view_is) (seen_after l.told c.self.inside.told l.all c.next_unit.new.self c.self.inside.all c.next_unit.ensures.left c.loop-unit.invariant.announced c.loop-unit.invariant.address behind)

pub returns-then-not-has-clause-unit : goal.returns-then-not-has-clause-unit
returns-then-not-has-clause-unit g c =
    let l = c.loop-unit.self-inside in
    unit_first l.told l.all.left _ c.in_ok-unit.unit c.in_ok-unit.ensures.unit c.if-not-has.ensures c.loop-unit.invariant.left ∙ ap (λ (v : Announcing). slice_get v.left 0) c.self.view_is

pub returns-then-not-has-clause-left : goal.returns-then-not-has-clause-left
returns-then-not-has-clause-left g c =
    let l = c.loop-unit.self-inside in
    let behind = unit_behind l.told l.all.left _ c.in_ok-unit.unit c.in_ok-unit.ensures.unit c.if-not-has.ensures c.loop-unit.invariant.left in
    rw (← c.self.view_is, c.with-self-inside.ensures) (seen_after _ c.self.inside.told l.all c.next_unit.new.self c.self.inside.all c.next_unit.ensures.left c.loop-unit.invariant.announced c.loop-unit.invariant.address behind)

pub loop-unit-preserved : goal.loop-unit-preserved
loop-unit-preserved g c =
    let l = c.loop-unit.self-inside in
    let i = c.loop-unit.invariant in
    record {
      announced = ap (λ (a : Announcing). a.announced) c.next_unit.ensures.left ∙ i.announced;
      address = ap (λ (a : Announcing). a.address) c.next_unit.ensures.left ∙ i.address;
      left = passed l.told l.all c.next_unit.new.self _ c.in_ok-unit.unit c.next_unit.ensures.left c.in_ok-unit.ensures.unit c.if-not-has.ensures i.left;
      later = let n = i.later in let k = c.next_unit.ensures.later in omega arith;
      told = i.told;
      first = λ fresh. absurd (not_noted l.told c.self.inside.told c.in_ok-unit.unit c.if-not-has.ensures i.told (c.self.invariant fresh));
    }
