use Rattle.std.proofs.Common.{◌-◌, length, take, drop, arith, ap, sym, ◌∙◌}
use Rattle.std.proofs.lemmas.List.{take_rest}
use Rattle.blz_model.specs.Texts.{c_string}
use Rattle.blz_bytes.proofs.ZeroEnded.{c_string_none, c_string_found}
use Rattle.blz_image.proofs.text.bytes_at.Goals as goal

pub returns-in_err-len : goal.returns-in_err-len
returns-in_err-len c =
    let table = c.args.table.now in
    let none = c_string_none (take (length table - c.args.at) (drop c.args.at table)) (λ j below. c.in_err-len.ensures j (omega arith) below) in
    rw c.from_residual.ensures (sym (ap c_string (sym (take_rest table c.args.at)) ∙ none))

pub returns : goal.returns
returns c =
    let table = c.args.table.now in
    let first = c.in_ok-len.ensures in
    sym (ap c_string (sym (take_rest table c.args.at)) ∙ c_string_found (take (length table - c.args.at) (drop c.args.at table)) c.in_ok-len.len first.0.high (λ j below. first.0.before j (omega arith) below) first.1)
