use Rattle.blz_bytes.proofs.Pairs.{distinct_nil}
use Rattle.blz_bytes.proofs.insert_map.InsertMap.new.Goals as goal

pub invariant_of-result : goal.invariant_of-result
invariant_of-result g c = distinct_nil g.K.PartialEq.eq _ c.new.ensures.items
