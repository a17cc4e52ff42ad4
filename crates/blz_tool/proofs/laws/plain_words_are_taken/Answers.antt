use Rattle.blz_tool.proofs.PlainTaken.{plain_taken}
use Rattle.blz_tool.proofs.laws.plain_words_are_taken.Goals as goal

pub returns : goal.returns
returns c = plain_taken
