use Rattle.std.proofs.Common.{sym, ◌∙◌, arith}
use Rattle.blz_info.proofs.RunSteps.{runs_more, runs_short, runs_stop, runs_end}
use Rattle.blz_info.proofs.walking.runs.passed_by.Goals as goal

pub loop-run-preserved : goal.loop-run-preserved
loop-run-preserved c = record {
  ahead = omega (arith, c.in_ok-start.ensures.within, c.in_ok-next.ensures.within);
  within = λ le. c.in_ok-next.ensures.within.1 (c.in_ok-start.ensures.within.1 (c.loop-run.invariant.within le));
  rest = sym (runs_more c.args.runs.now _ _ _ _ _ _ _ _ c.loop-run-test.true (sym c.in_ok-start.ensures.value) (sym c.in_ok-next.ensures.value)) ∙ c.loop-run.invariant.rest;
}

pub returns-in_err-start-clause-value : goal.returns-in_err-start-clause-value
returns-in_err-start-clause-value c =
    c.from_residual.ensures ∙ sym (runs_short c.args.runs.now _ _ _ _ _ _ c.loop-run-test.true (sym c.in_err-start.ensures.value)) ∙ c.loop-run.invariant.rest

pub returns-in_err-next-clause-value : goal.returns-in_err-next-clause-value
returns-in_err-next-clause-value c =
    c.from_residual-in_err-next.ensures ∙ sym (runs_stop c.args.runs.now _ _ _ _ _ _ _ c.loop-run-test.true (sym c.in_ok-start.ensures.value) (sym c.in_err-next.ensures.value)) ∙ c.loop-run.invariant.rest

pub returns-clause-value : goal.returns-clause-value
returns-clause-value c = c.over-2.ensures.value ∙ sym (runs_end c.args.runs.now _ _ _ _ _ c.loop-run-test.false) ∙ c.loop-run.invariant.rest
