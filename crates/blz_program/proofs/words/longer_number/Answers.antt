use Rattle.std.proofs.Common.{arith, ◌+◌, ap, sym, ◌∙◌, Some, drop}
use Rattle.blz_program.specs.Words.{decimal_from, up_to}
use Rattle.blz_program.proofs.Numbers.{decimal_step, up_to-decimal_from, up_to-some}
use Rattle.blz_program.proofs.words.longer_number.Goals as goal

pub loop-digit-preserved : goal.loop-digit-preserved
loop-digit-preserved c = record {
  same = ap (λ number. up_to c.args.most (decimal_from number (drop (c.loop-digit.digit-index + 1) c.args.digits.now))) (sym (up_to-some c.args.most _ _ (sym c.in-Some.ensures.value)))
      ∙ sym (ap (up_to c.args.most) (decimal_step (Some c.loop-digit.value) c.args.digits.now c.loop-digit.digit-index (omega arith)))
      ∙ c.loop-digit.invariant.same;
  longer = omega (arith, c.in-Some.ensures.longer, c.loop-digit.invariant.longer);
}

pub returns-in-None-clause-value : goal.returns-in-None-clause-value
returns-in-None-clause-value c =
    sym (sym c.loop-digit.invariant.same
    ∙ ap (up_to c.args.most) (decimal_step (Some c.loop-digit.value) c.args.digits.now c.loop-digit.digit-index (omega arith))
    ∙ up_to-decimal_from (drop (c.loop-digit.digit-index + 1) c.args.digits.now) _ c.args.most (sym c.in-None.ensures.value))
