use Rattle.std.proofs.Common.{arith}
use Rattle.std.proofs.lemmas.List.Sorted.{IsNonDecreasingBy-from_all_adjacent}
use Rattle.blz_entry.specs.declared.aranges.ArangeSet.{ArangeSet}
use Rattle.blz_units.proofs.announced.address_sets.are_rising.Goals as goal

pub returns : goal.returns
returns c = IsNonDecreasingBy-from_all_adjacent (λ (set : ArangeSet). set.unit) c.args.sets.now (λ k d lt. c.loop-at.invariant k d (omega arith))
