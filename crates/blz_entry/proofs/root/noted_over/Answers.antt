use Rattle.std.proofs.Common.{Some, sym, ap, ◌∙◌}
use Rattle.blz_entry.specs.Roots.{noted_step}
use Rattle.blz_entry.proofs.FoldSteps.{over_none, over_end, over_more}
use Rattle.blz_entry.proofs.RootSteps.{noted_ignores}
use Rattle.blz_entry.proofs.root.noted_over.Goals as goal

pub returns-in_default : goal.returns-in_default
returns-in_default c =
    sym (over_end noted_step noted_ignores c.loop-name.values c.loop-name.entries _ (rw c.in_default.is at c.in_ok-name.ensures.value)) ∙ c.loop-name.invariant

pub returns-in_err-name : goal.returns-in_err-name
returns-in_err-name c =
    c.from_residual.ensures ∙ sym (over_none noted_step noted_ignores c.loop-name.values c.loop-name.entries c.in_err-name.ensures.value.0) ∙ c.loop-name.invariant

pub loop-name-preserved : goal.loop-name-preserved
loop-name-preserved c =
    sym (over_more noted_step noted_ignores c.loop-name.values _ c.loop-name.entries _ _ (rw c.in-Some.is at c.in_ok-name.ensures.value) (ap (λ v. Some v) (sym c.noted-values.ensures))) ∙ c.loop-name.invariant
