use Rattle.std.proofs.Common.{◌≡◌, false, refl, ap, sym}
use Rattle.std.specs.Str.{is_utf8}
use Rattle.std.proofs.lemmas.Bool.{false_from_ne_true}
use Rattle.std.proofs.lemmas.Str.{IsUtf8-from_is_utf8, is_utf8-from_IsUtf8}
use Rattle.blz_model.specs.Part.{Good}
use Rattle.blz_bytes.specs.PathTexts.{path_text}
use Rattle.blz_bytes.proofs.path_text.bytes_to_path.Goals as goal

pub returns-in-Ok : goal.returns-in-Ok
unfolding path_text
returns-in-Ok c =
    let text = c.in-Ok.ensures.cases in
    rw (is_utf8-from_IsUtf8 c.args.bytes.now text.1) (ap Good (sym text.0))

pub returns-in-Err : goal.returns-in-Err
unfolding path_text
returns-in-Err c =
    let bytes = c.args.bytes.now in
    let bad : is_utf8 bytes ≡ false = false_from_ne_true (is_utf8 bytes) (λ e. c.in-Err.ensures.cases.0 (IsUtf8-from_is_utf8 bytes e)) in
    rw (bad, c.new.ensures) (refl, λ e. cc)
