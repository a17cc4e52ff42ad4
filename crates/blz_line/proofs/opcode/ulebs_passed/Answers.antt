use Rattle.std.proofs.Common.{◌-◌, ◌+◌, sym, ◌∙◌, arith}
use Rattle.blz_line.proofs.ProgramSteps.{ulebs_more, ulebs_none, ulebs_end}
use Rattle.blz_line.proofs.opcode.ulebs_passed.Goals as goal

pub returns-in_err-next-clause-value : goal.returns-in_err-next-clause-value
returns-in_err-next-clause-value c = c.from_residual.ensures ∙ sym (ulebs_none _ (c.args.count - (c.loop.counter + 1)) _ _ (omega arith) (sym c.in_err-next.ensures.value)) ∙ c.loop.invariant.rest

pub loop-preserved : goal.loop-preserved
loop-preserved c = record {
  ahead = omega (arith, c.in_ok-next.ensures.within);
  within = c.in_ok-next.ensures.within.1;
  rest = sym (ulebs_more _ (c.args.count - (c.loop.counter + 1)) _ _ c.in_ok-next.field-0-0 _ (omega arith) (sym c.in_ok-next.ensures.value)) ∙ c.loop.invariant.rest;
}

pub returns-clause-value : goal.returns-clause-value
returns-clause-value c = sym (ulebs_end _ _ _ (omega arith)) ∙ c.loop.invariant.rest
