use Rattle.std.proofs.Common.{sym, ◌∙◌, arith}
use Rattle.blz_info.proofs.AttributeSteps.{behind_more, behind_none, passed_end}
use Rattle.blz_info.proofs.attributes.passed.Goals as goal

pub loop-spec-preserved : goal.loop-spec-preserved
loop-spec-preserved c = record {
  ahead = omega (arith, c.in_ok-next.ensures.within);
  within = λ le. c.in_ok-next.ensures.within.1 (c.loop-spec.invariant.within le);
  rest = sym (behind_more c.args.specs.now _ _ _ _ _ _ _ c.loop-spec-test.true (sym c.in_ok-next.ensures.value)) ∙ c.loop-spec.invariant.rest;
}

pub returns-in_err-next-clause-value : goal.returns-in_err-next-clause-value
returns-in_err-next-clause-value c =
    c.from_residual.ensures ∙ sym (behind_none c.args.specs.now _ _ _ _ _ _ c.loop-spec-test.true (sym c.in_err-next.ensures.value)) ∙ c.loop-spec.invariant.rest

pub returns-clause-value : goal.returns-clause-value
returns-clause-value c = sym (passed_end c.args.specs.now _ _ _ _ _ c.loop-spec-test.false) ∙ c.loop-spec.invariant.rest
