use Rattle.std.proofs.Common.{refl}
use Rattle.blz_symbols.specs.SymbolRule.{answer_in}
use Rattle.blz_elf.proofs.lookup.answer_in.Goals as goal

pub returns-in-Err : goal.returns-in-Err
unfolding answer_in
returns-in-Err c = rw (← c.in-Some.ensures, c.in-Err.ensures.0) (refl, c.in-Err.ensures.1)
