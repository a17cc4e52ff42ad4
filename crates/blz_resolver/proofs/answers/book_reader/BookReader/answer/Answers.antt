use Rattle.blz_resolver.proofs.ReaderSteps.{keeps_by, keeps_on}
use Rattle.blz_resolver.proofs.answers.book_reader.BookReader.answer.Goals as goal

pub returns-in-Some-clause-keeps : goal.returns-in-Some-clause-keeps
returns-in-Some-clause-keeps g c =
    keeps_on _ _ _ _ (keeps_by _ _ _ _ c.in_ok-at.ensures.leaves) c.function_answer.ensures.keeps

pub returns-in-None-clause-keeps : goal.returns-in-None-clause-keeps
returns-in-None-clause-keeps g c =
    keeps_on _ _ _ _ (keeps_by _ _ _ _ c.in_ok-at.ensures.leaves) c.symbol_answer.ensures.keeps
