use Rattle.std.proofs.Common.{◌≡◌, ◌≤◌, ◌<◌, ◌+◌, ◌-◌, ◌*◌, get_or, sym, arith}
use Rattle.std.proofs.lemmas.Option.{slice_get-get_or}
use Rattle.blz_bytes.proofs.LebLoop.{uleb_one, uleb_two}
use Rattle.blz_bytes.proofs.leb128.uleb_at.Goals.{else-at-bytes-via-then-at-bytes+else-bytes-at-lt128, else-at-bytes-via-else-at-bytes}
use Rattle.blz_bytes.proofs.leb128.uleb_at.Goals as goal

pub returns-then-bytes-at-lt128-clause-value : goal.returns-then-bytes-at-lt128-clause-value
returns-then-bytes-at-lt128-clause-value c =
    let bytes = c.args.bytes.now in
    let byte = get_or bytes c.args.at 0 in
    let same : c.from.result ≡ byte = omega arith in
    rw same (sym (uleb_one bytes c.args.at byte (slice_get-get_or bytes c.args.at 0 (omega arith)) (omega arith)))

pub returns-then-bytes-at-lt128-2-clause-value : goal.returns-then-bytes-at-lt128-2-clause-value
returns-then-bytes-at-lt128-2-clause-value c =
    let bytes = c.args.bytes.now in
    let byte = get_or bytes c.args.at 0 in
    let next = get_or bytes (c.args.at + 1) 0 in
    let great : 128 ≤ byte = elim c.else-at-bytes.branch [
      | else-at-bytes-via-then-at-bytes+else-bytes-at-lt128 w ↦ omega arith
      | else-at-bytes-via-else-at-bytes w ↦ absurd (omega arith)
    ] in
    let small : byte < 256 = omega (arith, c.type_inv.bytes c.args.at) in
    let value : c.from-then-bytes-at-lt128-2.result - 128 + c.from-then-bytes-at-lt128-2-2.result * 128 ≡ byte - 128 + 128 * next = omega (arith, great) in
    let place : c.args.at + 1 + 1 ≡ c.args.at + 2 = omega arith in
    rw (value, ← place) (sym (uleb_two bytes c.args.at byte next (slice_get-get_or bytes c.args.at 0 (omega arith)) great small (slice_get-get_or bytes (c.args.at + 1) 0 (omega arith)) (omega arith)))
