use Rattle.std.proofs.Common.{leb, ltb, rules}
use Rattle.std.proofs.lemmas.List.Sorted.{IsPartitionPoint-from_clause, IsPartitionedBy-leb, IsPartitionedBy-ltb}
use Rattle.blz_entry.specs.declared.aranges.ArangeSet.{ArangeSet}
use Rattle.blz_units.proofs.Named.{extent_made}
use Rattle.blz_units.proofs.announced.address_sets.extent_of.Goals as goal

pub returns : goal.returns
returns c =
    let below = IsPartitionPoint-from_clause (λ (set : ArangeSet). ltb set.unit c.args.start) _ _ c.partition_point-from.ensures.partitioned (IsPartitionedBy-ltb (λ (set : ArangeSet). set.unit) _ c.args.start c.requires) (λ a r q k. search rules) in
    let up_to = IsPartitionPoint-from_clause (λ (set : ArangeSet). leb set.unit c.args.start) _ _ c.partition_point-to.ensures.partitioned (IsPartitionedBy-leb (λ (set : ArangeSet). set.unit) _ c.args.start c.requires) (λ a r q k. search rules) in
    extent_made c.args.start c.args.sets.now _ _ c.partition_point-from.ensures.bound c.partition_point-to.ensures.bound below up_to
