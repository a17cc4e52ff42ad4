use Rattle.std.proofs.Common.{sym, ◌∙◌}
use Rattle.blz_info.proofs.Sizes.{sized}
use Rattle.blz_info.proofs.forms.behind.behind_field.Goals as goal

pub returns-in-Some-clause-value : goal.returns-in-Some-clause-value
returns-in-Some-clause-value c = c.over.ensures.value ∙ sym (sized c.args.field c.args.encoding _ c.args.at c.in-Some.size (sym c.in-Some.ensures))
