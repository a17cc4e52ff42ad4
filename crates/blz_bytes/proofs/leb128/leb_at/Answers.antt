use Rattle.std.proofs.Common.{refl, ◌≡◌, ◌+◌, ◌-◌, get_or, arith, sym, ◌∙◌}
use Rattle.std.proofs.lemmas.Option.{slice_get-get_or}
use Rattle.blz_bytes.proofs.LebLoop.{leb_none, leb_more, leb_last, leb_past, leb_endless, fits_step}
use Rattle.blz_bytes.proofs.leb128.leb_at.Goals as goal

pub returns-then-bytes-at-clause-value : goal.returns-then-bytes-at-clause-value
returns-then-bytes-at-clause-value c =
    sym (leb_past _ (9 - c.loop-i.i) c.loop-i.value c.loop-i.factor _ c.args.bytes.now (omega arith) (omega arith)) ∙ c.loop-i.invariant.rest

pub overflow_mul-value : goal.overflow_mul-value
overflow_mul-value c = omega (arith, fits_step c.loop-i.value c.loop-i.factor c.from-low.result c.loop-i.i c.loop-i.invariant.small c.loop-i.invariant.power (omega arith) (omega arith))

pub overflow_add-value : goal.overflow_add-value
overflow_add-value c = omega (arith, fits_step c.loop-i.value c.loop-i.factor c.from-low.result c.loop-i.i c.loop-i.invariant.small c.loop-i.invariant.power (omega arith) (omega arith))

pub overflow_mul-factor : goal.overflow_mul-factor
overflow_mul-factor c = omega (arith, fits_step c.loop-i.value c.loop-i.factor c.from-low.result c.loop-i.i c.loop-i.invariant.small c.loop-i.invariant.power (omega arith) (omega arith))

pub returns-then-byte-lt128-clause-value : goal.returns-then-byte-lt128-clause-value
returns-then-byte-lt128-clause-value c =
    let byte = get_or c.args.bytes.now (c.args.at + c.loop-i.i) 0 in
    let low : c.from-low.result ≡ byte = omega arith in
    rw (c.from.ensures, c.from-then-byte-lt128.ensures, low) (sym (leb_last _ (9 - c.loop-i.i) c.loop-i.value c.loop-i.factor _ byte c.args.bytes.now (omega arith) (slice_get-get_or c.args.bytes.now _ 0 (omega arith)) (omega arith)) ∙ c.loop-i.invariant.rest)

pub returns-then-byte-lt128-clause-small : goal.returns-then-byte-lt128-clause-small
returns-then-byte-lt128-clause-small c =
    let step = fits_step c.loop-i.value c.loop-i.factor c.from-low.result c.loop-i.i c.loop-i.invariant.small c.loop-i.invariant.power (omega arith) (omega arith) in
    rw (c.from.ensures, c.from-then-byte-lt128.ensures) (step.0, omega (arith, step.1))

pub loop-i-preserved : goal.loop-i-preserved
loop-i-preserved c =
    let byte = get_or c.args.bytes.now (c.args.at + c.loop-i.i) 0 in
    let step = fits_step c.loop-i.value c.loop-i.factor c.from-low.result c.loop-i.i c.loop-i.invariant.small c.loop-i.invariant.power (omega arith) (omega arith) in
    record {
      small = step.0;
      power = step.2;
      rest = sym (leb_more _ (10 - (c.loop-i.i + 1)) c.loop-i.value c.loop-i.factor c.from-low.result _ (c.args.at + (c.loop-i.i + 1)) byte c.args.bytes.now (omega arith) (omega arith) (slice_get-get_or c.args.bytes.now _ 0 (omega arith)) (omega arith) (omega (arith, c.type_inv.bytes (c.args.at + c.loop-i.i)))) ∙ c.loop-i.invariant.rest;
    }

pub returns-then-bytes-at-le9-clause-value : goal.returns-then-bytes-at-le9-clause-value
returns-then-bytes-at-le9-clause-value c =
    sym (leb_past _ 0 c.loop-i.value c.loop-i.factor _ c.args.bytes.now (omega arith) (omega arith)) ∙ c.loop-i.invariant.rest

pub returns-then-last-ge128-clause-value : goal.returns-then-last-ge128-clause-value
returns-then-last-ge128-clause-value c =
    let bytes = c.args.bytes.now in
    let nine : c.loop-i.i ≡ 9 = omega arith in
    let rest = rw nine at c.loop-i.invariant.rest in
    sym (leb_endless 1 0 c.loop-i.value c.loop-i.factor (c.args.at + 9) (get_or bytes (c.args.at + 9) 0) bytes refl refl (slice_get-get_or bytes _ 0 (omega arith)) (omega arith)) ∙ rest

pub returns-clause-value : goal.returns-clause-value
returns-clause-value c =
    let bytes = c.args.bytes.now in
    let nine : c.loop-i.i ≡ 9 = omega arith in
    let rest = rw nine at c.loop-i.invariant.rest in
    let next : c.args.at + 9 + 1 ≡ c.args.at + 10 = omega arith in
    rw (c.from-2.ensures, c.from-3.ensures, c.from-4.ensures, c.from-5.ensures, ← next) (sym (leb_last 1 0 c.loop-i.value c.loop-i.factor (c.args.at + 9) (get_or bytes (c.args.at + 9) 0) bytes refl (slice_get-get_or bytes _ 0 (omega arith)) (omega arith)) ∙ rest)

pub returns-then-at-bytes-clause-value : goal.returns-then-at-bytes-clause-value
returns-then-at-bytes-clause-value c = sym (leb_none 10 9 c.args.at c.args.bytes.now refl (omega arith))
