use Rattle.std.proofs.Common.{true, ◌≡◌, ap, sym, subst, ◌∙◌}
use Rattle.blz_cover.specs.Answers.{is_answered, source_line}
use Rattle.blz_cover.proofs.Faults.{source_line-answer, is_answered-answer}
use Rattle.blz_cover.proofs.cover.Cover.line_of.Goals as goal

pub returns-in-Ok-clause-good : goal.returns-in-Ok-clause-good
returns-in-Ok-clause-good g c =
    let line = source_line-answer _ _ c.args.addr _ c.self.invariant.has_debug c.in-Ok.ensures.value in
    c.line_in.ensures ∙ sym line ∙ ap (λ v. source_line v.images c.args.addr) c.self.view_is

pub returns-in-Ok-clause-answered : goal.returns-in-Ok-clause-answered
returns-in-Ok-clause-answered g c =
    let is = is_answered-answer _ _ c.args.addr _ c.self.invariant.has_debug c.in-Ok.ensures.value in
    subst (λ v. is_answered v.images c.args.addr ≡ true) c.self.view_is is
