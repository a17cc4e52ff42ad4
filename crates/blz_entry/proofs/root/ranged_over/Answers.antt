use Rattle.std.proofs.Common.{sym, ◌∙◌}
use Rattle.blz_entry.specs.Roots.{root_step}
use Rattle.blz_entry.proofs.FoldSteps.{over_none, over_end, over_more, over_fails}
use Rattle.blz_entry.proofs.RootSteps.{root_ignores}
use Rattle.blz_entry.proofs.root.ranged_over.Goals as goal

pub returns-in_default : goal.returns-in_default
returns-in_default c =
    sym (over_end (root_step c.args.sections.now c.args.header.now) (root_ignores _ _) c.loop-name.root c.loop-name.entries _ (rw c.in_default.is at c.in_ok-name.ensures.value)) ∙ c.loop-name.invariant

pub returns-in_err-name : goal.returns-in_err-name
returns-in_err-name c =
    c.from_residual.ensures ∙ sym (over_none (root_step c.args.sections.now c.args.header.now) (root_ignores _ _) c.loop-name.root c.loop-name.entries c.in_err-name.ensures.value.0) ∙ c.loop-name.invariant

pub returns-in_err-root : goal.returns-in_err-root
returns-in_err-root c =
    c.from_residual-in_err-root.ensures ∙ sym (over_fails (root_step c.args.sections.now c.args.header.now) (root_ignores _ _) c.loop-name.root c.loop-name.entries _ _ (rw c.in-Some.is at c.in_ok-name.ensures.value) (sym c.in_err-root.ensures)) ∙ c.loop-name.invariant

pub loop-name-preserved : goal.loop-name-preserved
loop-name-preserved c =
    sym (over_more (root_step c.args.sections.now c.args.header.now) (root_ignores _ _) c.loop-name.root _ c.loop-name.entries _ _ (rw c.in-Some.is at c.in_ok-name.ensures.value) (sym c.in_ok-root.ensures)) ∙ c.loop-name.invariant
