use Rattle.blz_units.specs.UnitSites.{inlined_at}
use Rattle.blz_reader.proofs.CacheSteps.{fills_again}
use Rattle.blz_reader.proofs.reader.Reader.find_inlined.Goals as goal

pub returns-clause-value : goal.returns-clause-value
unfolding inlined_at
returns-clause-value g c = rw c.in_ok-calls.ensures.value (rw c.as_slice.ensures.value at c.inlined_each.ensures.value)

pub returns-clause-fills : goal.returns-clause-fills
returns-clause-fills g c = fills_again _ _ _ _ _ c.chain_in.ensures.fills c.inlined_each.ensures.fills
