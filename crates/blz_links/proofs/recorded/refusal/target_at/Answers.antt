use Rattle.std.proofs.Common.{Ok, sym, ap, ◌∙◌}
use Rattle.std.specs.Str.{is_utf8}
use Rattle.std.proofs.lemmas.Bool.{false_from_ne_true}
use Rattle.std.proofs.lemmas.Str.{IsUtf8-from_is_utf8, is_utf8-from_IsUtf8}
use Rattle.blz_links.proofs.LinkLemmas.{target-no_text, target-text}
use Rattle.blz_links.proofs.recorded.refusal.target_at.Goals as goal

pub returns-in-Ok-clause-value : goal.returns-in-Ok-clause-value
returns-in-Ok-clause-value c =
    let text = c.in-Some.text.now in
    let is_text = c.in-Ok.ensures.cases in
    ap (λ t. Ok (t, c.in-Some.next)) is_text.0 ∙ sym (target-text c.args.bytes.now c.args.at c.args.unended.now text c.in-Some.next (sym c.in-Some.ensures.value) (is_utf8-from_IsUtf8 text is_text.1))

pub returns-in-Err-clause-value : goal.returns-in-Err-clause-value
returns-in-Err-clause-value c =
    let text = c.in-Some.text.now in
    let no_text = false_from_ne_true (is_utf8 text) (λ e. c.in-Err.ensures.cases.0 (IsUtf8-from_is_utf8 text e)) in
    rw c.invalid-in-Err.ensures (sym (target-no_text c.args.bytes.now c.args.at c.args.unended.now text c.in-Some.next (sym c.in-Some.ensures.value) no_text))
