use Rattle.std.proofs.Common.{None}
use Rattle.blz_resolver.proofs.ReaderSteps.{keeps_by}
use Rattle.blz_resolver.proofs.answers.book_reader.BookReader.function_symbol.Goals as goal

pub returns-in_err-lang-clause-keeps : goal.returns-in_err-lang-clause-keeps
returns-in_err-lang-clause-keeps c = keeps_by None _ _ _ (c.language.ensures.leaves None)

pub returns-clause-keeps : goal.returns-clause-keeps
returns-clause-keeps c = keeps_by None _ _ _ (c.language.ensures.leaves None)
