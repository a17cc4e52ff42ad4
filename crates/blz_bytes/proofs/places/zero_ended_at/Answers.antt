use Rattle.std.proofs.Common.{sym, arith}
use Rattle.blz_bytes.proofs.ZeroEnded.{none_past, none_ends, zero_found}
use Rattle.blz_bytes.proofs.places.zero_ended_at.Goals as goal

pub returns-then-at-bytes-clause-value : goal.returns-then-at-bytes-clause-value
returns-then-at-bytes-clause-value c = sym (none_past c.args.bytes.now c.args.at (omega arith))

pub returns-in_err-len-clause-value : goal.returns-in_err-len-clause-value
returns-in_err-len-clause-value c =
    rw c.from_residual.ensures (sym (none_ends c.args.bytes.now c.args.at (λ j below. c.in_err-len.ensures j (omega arith) below)))

pub returns-clause-value : goal.returns-clause-value
returns-clause-value c =
    let first = c.in_ok-len.ensures in
    zero_found c.args.bytes.now c.args.at c.in_ok-len.len first.0.high (λ j below. first.0.before j (omega arith) below) first.1
