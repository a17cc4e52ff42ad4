use Rattle.std.proofs.Common.{◌∙◌, ap₂}
use Rattle.std.proofs.lemmas.Result.{IfOk-weaker}
use Rattle.clap.specs.Words.{with_rule}
use Rattle.blz_tool.proofs.command_line.command.Goals as goal

pub returns : goal.returns
returns c =
    IfOk-weaker c.with_arg-6.result _ _
    (λ r h. h ∙ ap₂ with_rule
    (c.in_ok-five.ensures ∙ ap₂ with_rule
    (c.in_ok-four.ensures ∙ ap₂ with_rule
    (c.in_ok-three.ensures ∙ ap₂ with_rule
    (c.in_ok-two.ensures ∙ ap₂ with_rule
    (c.in_ok-one.ensures ∙ ap₂ with_rule c.new-start.ensures.app c.flag_arg.ensures.rule) c.flag_arg-2.ensures.rule) c.option_arg.ensures.rule) c.option_arg-2.ensures.rule) c.place_arg.ensures.rule) c.places_arg.ensures.rule)
    c.with_arg-6.ensures
