-- What a question of the code stands for.
use Rattle.std.specs.Prelude.{Option, Some, None}
use Rattle.blz_fold.specs.declared.program.Question.{Question}
use Rattle.blz_fold.specs.Runs as run

abbrev pub asked_by : Question → run.Question
asked_by question = record { nodes = question.nodes; image = question.image.now; stacks = question.stacks.now }

abbrev pub question_view : Option Question → Option run.Question
question_view None = None
question_view (Some question) = Some (asked_by question)
