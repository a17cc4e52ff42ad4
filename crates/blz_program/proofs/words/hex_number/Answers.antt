use Rattle.std.proofs.Common.{◌+◌, ℕ, Option, Some, arith, sym, ◌∙◌, ap, drop}
use Rattle.blz_program.specs.Words.{hex_from, with_digit}
use Rattle.blz_program.proofs.Numbers.{read_step, read_none, room}
use Rattle.blz_program.proofs.words.hex_number.Goals as goal

pub overflow_mul-value : goal.overflow_mul-value
overflow_mul-value c = omega (arith, room c.loop-digit.value c.loop-digit.digit-index c.loop-digit.invariant.small (omega arith))

pub overflow_add-value : goal.overflow_add-value
overflow_add-value c = omega (arith, c.in-Some.ensures.small, room c.loop-digit.value c.loop-digit.digit-index c.loop-digit.invariant.small (omega arith))

pub returns-in-None : goal.returns-in-None
returns-in-None c =
    sym (sym c.loop-digit.invariant.same ∙ read_step (Some c.loop-digit.value) c.args.digits.now c.loop-digit.digit-index (omega arith)
    ∙ ap (λ (d : Option ℕ). hex_from (with_digit 16 (Some c.loop-digit.value) d) (drop (c.loop-digit.digit-index + 1) c.args.digits.now)) (sym c.in-None.ensures.value)
    ∙ read_none (drop (c.loop-digit.digit-index + 1) c.args.digits.now))
