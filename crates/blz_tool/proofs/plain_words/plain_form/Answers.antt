use Rattle.std.proofs.Common.{sym, ◌∙◌}
use Rattle.blz_tool.proofs.PlainWalk.{plain_given}
use Rattle.blz_tool.proofs.plain_words.plain_form.Goals as goal

pub returns-in-len2-up : goal.returns-in-len2-up
returns-in-len2-up c = plain_given c.args.given.now _ c.in-len2-up.len_at_least (sym c.is_plain.ensures ∙ c.if-is_plain.true) (sym c.are_plain.ensures ∙ c.if-are_plain.true)
