use Rattle.std.proofs.Common.{sym, ◌∙◌, arith}
use Rattle.blz_line.proofs.TableSteps.{values_more, values_none, values_end}
use Rattle.blz_line.proofs.formats.entry_at.Goals as goal

pub returns-in_err-value : goal.returns-in_err-value
returns-in_err-value c = c.from_residual.ensures ∙ sym (values_none _ _ _ c.loop-format.format-index _ _ _ (omega arith) (sym c.in_err-value.ensures.value)) ∙ c.loop-format.invariant

pub loop-format-preserved : goal.loop-format-preserved
loop-format-preserved c = rw c.with_content-entry.ensures (sym (values_more _ _ _ c.loop-format.format-index _ _ _ _ _ (omega arith) (sym c.in_ok-value.ensures.value)) ∙ c.loop-format.invariant)

pub returns : goal.returns
returns c = sym (values_end _ _ _ c.loop-format.format-index _ _ (omega arith)) ∙ c.loop-format.invariant
