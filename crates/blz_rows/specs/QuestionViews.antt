-- What a question of the code stands for.
use Rattle.blz_rows.specs.Words as words
use Rattle.blz_rows.specs.declared.words.Question.{Question}

abbrev pub question_view : Question → words.Question
question_view q = record { wanted = q.wanted; path = q.path.now; at = record { file = q.file.now; line = q.line } }
