use Rattle.std.proofs.Common.{◌≡◌, ◌∙◌, Some, ap, map, sym}
use Rattle.blz_tool.specs.CommandLine.{Resolve, asked_named}
use Rattle.blz_tool.specs.Requests.{question_view, request_view}
use Rattle.blz_tool.proofs.Found.{made_of_file}
use Rattle.blz_tool.proofs.program.made_of_named.Goals as goal

pub returns-in-Ok-Some-Resolve-clause-made : goal.returns-in-Ok-Some-Resolve-clause-made
returns-in-Ok-Some-Resolve-clause-made g c =
    let arm = c.in-Ok-Some-Resolve in
    let asks : asked_named (map (λ w. w.now) c.args.given.now) ≡ Resolve (question_view arm.question) =
    sym arm.ensures.value ∙ ap request_view (arm.field-0-is ∙ ap Some arm.field-0-0-is) in
    made_of_file c.made_of_question.result (map (λ w. w.now) c.args.given.now) _ (question_view arm.question) _ asks c.made_of_question.ensures.made
