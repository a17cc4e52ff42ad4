use Rattle.std.proofs.Common.{◌≡◌, length, Some, refl, sym}
use Rattle.blz_model.specs.Texts.{text_at, name_bytes}
use Rattle.blz_symbols.specs.NameRule.{read_name}
use Rattle.blz_image.proofs.TextLemmas.{span_of_text}
use Rattle.blz_symbols.proofs.names.read_name.Goals as goal

pub returns-in-Some : goal.returns-in-Some
unfolding read_name name_bytes
returns-in-Some c =
    let strings = c.args.strings.now in
    let text = c.in-Some.name.now in
    let at = c.args.symbol.now.name_offset in
    let found : text_at strings at ≡ Some text = sym c.in-Some.ensures in
    rw (found, span_of_text strings text at (record { start = at; len = length text }) found refl refl) refl
