use Rattle.blz_reader.proofs.CacheSteps.{fills_again}
use Rattle.blz_reader.proofs.reader.Reader.fill_calls.Goals as goal

pub returns-in-Ok-clause-fills : goal.returns-in-Ok-clause-fills
returns-in-Ok-clause-fills g c = fills_again _ _ _ _ _ c.fill_functions.ensures.fills c.put_calls_of.ensures.fills

pub returns-in-Err-clause-fills : goal.returns-in-Err-clause-fills
returns-in-Err-clause-fills g c = fills_again _ _ _ _ _ c.fill_functions.ensures.fills c.put_calls_of.ensures.fills
