use Rattle.std.proofs.Common.{arith, sym, ◌∙◌, Some, None}
use Rattle.blz_reader.proofs.UnitSteps.{kept_over, kept_on, kept_fails}
use Rattle.blz_index.proofs.prepared.first_function.Goals as goal

pub returns-in-None-clause-value : goal.returns-in-None-clause-value
returns-in-None-clause-value g c = sym c.loop-number.invariant.same ∙ kept_over c.args.units.now c.args.addr c.loop-number.announcing.left (sym c.in-None.ensures.unit)

pub returns-in-Ok-Some-clause-value : goal.returns-in-Ok-Some-clause-value
returns-in-Ok-Some-clause-value g c = sym c.loop-number.invariant.same ∙ kept_on c.args.units.now c.args.addr c.in-Some.number c.loop-number.announcing.left (Some c.in-Ok-Some.function) (sym c.in-Some.ensures.unit) (rw c.in-Ok-Some.field-0-is at c.in-Ok-Some.ensures.value)

pub returns-in-Err-clause-value : goal.returns-in-Err-clause-value
returns-in-Err-clause-value g c = sym c.loop-number.invariant.same ∙ kept_fails c.args.units.now c.args.addr c.in-Some.number c.loop-number.announcing.left _ (sym c.in-Some.ensures.unit) c.in-Err.ensures.value

pub loop-number-preserved : goal.loop-number-preserved
loop-number-preserved g c = record {
  same = rw c.in-Some.ensures.left (sym (kept_on c.args.units.now c.args.addr c.in-Some.number c.loop-number.announcing.left None (sym c.in-Some.ensures.unit) (rw c.in-Ok-None.field-0-is at c.in-Ok-None.ensures.value)) ∙ c.loop-number.invariant.same);
  later = omega arith;
}
