use Rattle.std.proofs.Common.{arith, sym, ◌∙◌, Some, None}
use Rattle.blz_line.specs.Lookups.{location_view}
use Rattle.blz_reader.proofs.UnitSteps.{kept_line_over, kept_line_on, kept_line_fails}
use Rattle.blz_index.proofs.prepared.first_location.Goals as goal

pub returns-in-None-clause-value : goal.returns-in-None-clause-value
returns-in-None-clause-value g c = sym c.loop-number.invariant.same ∙ kept_line_over c.args.texts.now c.args.units.now c.args.addr c.loop-number.announcing.left (sym c.in-None.ensures.unit)

pub returns-in-Ok-Some-clause-value : goal.returns-in-Ok-Some-clause-value
returns-in-Ok-Some-clause-value g c = sym c.loop-number.invariant.same ∙ kept_line_on c.args.texts.now c.args.units.now c.args.addr c.in-Some.number c.loop-number.announcing.left (Some (location_view c.in-Ok-Some.location)) (sym c.in-Some.ensures.unit) (rw c.in-Ok-Some.field-0-is at c.in-Ok-Some.ensures)

pub returns-in-Err-clause-value : goal.returns-in-Err-clause-value
returns-in-Err-clause-value g c = sym c.loop-number.invariant.same ∙ kept_line_fails c.args.texts.now c.args.units.now c.args.addr c.in-Some.number c.loop-number.announcing.left _ (sym c.in-Some.ensures.unit) c.in-Err.ensures

pub loop-number-preserved : goal.loop-number-preserved
loop-number-preserved g c = record {
  same = rw c.in-Some.ensures.left (sym (kept_line_on c.args.texts.now c.args.units.now c.args.addr c.in-Some.number c.loop-number.announcing.left None (sym c.in-Some.ensures.unit) (rw c.in-Ok-None.field-0-is at c.in-Ok-None.ensures)) ∙ c.loop-number.invariant.same);
  later = omega arith;
}
