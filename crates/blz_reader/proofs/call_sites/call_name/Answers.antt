use Rattle.std.specs.Str.{is_utf8}
use Rattle.std.proofs.lemmas.Bool.{false_from_ne_true}
use Rattle.std.proofs.lemmas.Str.{IsUtf8-from_is_utf8, is_utf8-from_IsUtf8}
use Rattle.blz_reader.proofs.CallNames.{name_good, name_bad}
use Rattle.blz_reader.proofs.call_sites.call_name.Goals as goal

pub returns-in-Ok : goal.returns-in-Ok
returns-in-Ok c =
    let u = c.in-Ok.ensures.cases in
    rw (c.in-Some.is, u.0) (name_good c.args.texts.now c.in-Some.place c.get.result.now c.get.ensures (is_utf8-from_IsUtf8 _ u.1))

pub returns-in-Err : goal.returns-in-Err
returns-in-Err c =
    rw (c.in-Some.is, c.invalid.ensures) (name_bad c.args.texts.now c.in-Some.place c.get.result.now c.get.ensures (false_from_ne_true (is_utf8 c.get.result.now) (λ e. c.in-Err.ensures.cases.0 (IsUtf8-from_is_utf8 _ e))), λ e. cc)
