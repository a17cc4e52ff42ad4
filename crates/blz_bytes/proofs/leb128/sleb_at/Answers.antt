use Rattle.std.proofs.Common.{◌≡◌, get_or, sym, ◌∙◌, arith}
use Rattle.std.proofs.lemmas.Option.{slice_get-get_or}
use Rattle.blz_bytes.proofs.SignedBytes.{sleb_none, sleb_one, sleb_some}
use Rattle.blz_bytes.proofs.leb128.sleb_at.Goals as goal

pub returns-then-bytes-at-lt128-clause-value : goal.returns-then-bytes-at-lt128-clause-value
returns-then-bytes-at-lt128-clause-value c =
    let bytes = c.args.bytes.now in
    let byte = get_or bytes c.args.at 0 in
    let same : c.from.result ≡ byte = omega arith in
    let is = rw same at c.signed_of.ensures.value in
    is ∙ sym (sleb_one bytes c.args.at byte (slice_get-get_or bytes c.args.at 0 (omega arith)) (omega arith))

pub returns-in_err-leb-clause-value : goal.returns-in_err-leb-clause-value
returns-in_err-leb-clause-value c =
    c.from_residual.ensures ∙ sym (sleb_none c.args.bytes.now c.args.at (sym c.in_err-leb.ensures.value))

pub returns-clause-value : goal.returns-clause-value
returns-clause-value c =
    c.signed_of-2.ensures.value ∙ sym (sleb_some c.args.bytes.now c.args.at c.in_ok-leb.next c.in_ok-leb.leb (sym c.in_ok-leb.ensures.value))
