use Rattle.blz_tool.specs.Requests.{question_view}
use Rattle.blz_tool.proofs.Found.{file_refused}
use Rattle.blz_tool.proofs.program.made_of_question.Goals as goal

pub returns-in-Err-clause-made : goal.returns-in-Err-clause-made
returns-in-Err-clause-made g c =
    rw (c.refusal.ensures, c.kind.ensures) (file_refused _ (question_view c.args.question.now) c.in-Err.error.kind _ c.in-Err.ensures.mark)
