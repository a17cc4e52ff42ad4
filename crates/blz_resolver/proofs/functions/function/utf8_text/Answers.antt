use Rattle.std.proofs.Common.{refl}
use Rattle.std.specs.Str.{is_utf8}
use Rattle.std.proofs.lemmas.Bool.{false_from_ne_true}
use Rattle.std.proofs.lemmas.Str.{IsUtf8-from_is_utf8, is_utf8-from_IsUtf8}
use Rattle.blz_resolver.specs.AddressAnswers.{utf8_text}
use Rattle.blz_resolver.proofs.functions.function.utf8_text.Goals as goal

pub returns-in-Ok : goal.returns-in-Ok
unfolding utf8_text
returns-in-Ok c = let u = c.in-Ok.ensures.cases in rw (u.0, is_utf8-from_IsUtf8 _ u.1) refl

pub returns-in-Err : goal.returns-in-Err
unfolding utf8_text
returns-in-Err c = rw (c.invalid.ensures, false_from_ne_true (is_utf8 c.args.bytes.now) (λ e. c.in-Err.ensures.cases.0 (IsUtf8-from_is_utf8 _ e))) (refl, λ e. cc)
