use Rattle.std.proofs.Common.{sym, arith}
use Rattle.std.proofs.lemmas.List.{take_rest}
use Rattle.blz_rows.proofs.WordSteps.{divided-none, divided-at}
use Rattle.blz_rows.proofs.words.divided.Goals as goal

pub returns-in_err-colon : goal.returns-in_err-colon
returns-in_err-colon c =
    rw c.from_residual.ensures (sym (divided-none c.args.word.now (λ k lt. c.in_err-colon.ensures k (omega arith) lt)))

pub returns : goal.returns
returns c =
    rw take_rest (sym (divided-at c.args.word.now c.in_ok-colon.colon c.in_ok-colon.ensures.0.high c.in_ok-colon.ensures.1 (λ k above below. c.in_ok-colon.ensures.0.after k (omega (arith, above)) below)))
