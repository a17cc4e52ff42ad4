use Rattle.std.proofs.Common.{sym, ap, ◌∙◌, ◌+◌, ◌-◌, arith}
use Rattle.blz_info.specs.Marks.{or_invalid}
use Rattle.blz_info.proofs.Marked.{good_some, marks_on}
use Rattle.blz_reader.specs.declared.references.Followed.{Followed}
use Rattle.blz_reader.specs.declared.references.Followed.TheVariants.{Name, On}
use Rattle.blz_reader.proofs.Followed.{on_is, ends_is, fails_is, over_at}
use Rattle.blz_reader.proofs.references.References.name_of.Goals as goal

pub returns-in-Ok-Name-clause-value : goal.returns-in-Ok-Name-clause-value
returns-in-Ok-Name-clause-value c = ap or_invalid (sym c.loop.invariant.rest ∙ ends_is (16 - c.loop.counter) _ c.loop.reference c.in-Ok-Name.name (omega arith) (rw c.loop.invariant.same at (good_some {A = Followed} _ (Name c.in-Ok-Name.name) (rw c.in-Ok-Name.field-0-is at c.in-Ok-Name.ensures.value))))

pub returns-in-Err-clause-value : goal.returns-in-Err-clause-value
returns-in-Err-clause-value c = marks_on _ _ _ c.in-Err.ensures.value (λ none. sym c.loop.invariant.rest ∙ fails_is (16 - c.loop.counter) _ c.loop.reference (omega arith) (rw c.loop.invariant.same at none))

pub loop-preserved : goal.loop-preserved
loop-preserved c = record {
  same = c.step.ensures.same ∙ c.loop.invariant.same;
  rest = on_is (16 - c.loop.counter) _ c.loop.reference c.in-Ok-On.next (16 - (c.loop.counter + 1)) (omega arith) (rw c.loop.invariant.same at (good_some {A = Followed} _ (On c.in-Ok-On.next) (rw c.in-Ok-On.field-0-is at c.in-Ok-On.ensures.value))) ∙ c.loop.invariant.rest;
}

pub returns-clause-value : goal.returns-clause-value
returns-clause-value c = ap or_invalid (sym c.loop.invariant.rest ∙ over_at (16 - c.loop.counter) _ c.loop.reference (omega arith))
