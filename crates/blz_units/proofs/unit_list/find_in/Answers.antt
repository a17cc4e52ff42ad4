use Rattle.std.proofs.Common.{◌∙◌, leb, rules}
use Rattle.std.proofs.lemmas.List.Sorted.{IsPartitionPoint-from_clause, IsPartitionedBy-leb}
use Rattle.blz_info.specs.declared.units.UnitHeader.{UnitHeader}
use Rattle.blz_units.proofs.UnitsInPlace.{found_none, found_some}
use Rattle.blz_units.proofs.unit_list.find_in.Goals as goal

pub returns-then-count-eq0 : goal.returns-then-count-eq0
returns-then-count-eq0 c =
    let point = IsPartitionPoint-from_clause (λ (h : UnitHeader). leb h.start c.args.offset) _ _ c.partition_point-count.ensures.partitioned (IsPartitionedBy-leb (λ (h : UnitHeader). h.start) _ c.args.offset c.requires.rises) (λ a r q k. search rules) in
    found_none _ _ _ c.if-count-eq0.true point

pub returns : goal.returns
returns c =
    let point = IsPartitionPoint-from_clause (λ (h : UnitHeader). leb h.start c.args.offset) _ _ c.partition_point-count.ensures.partitioned (IsPartitionedBy-leb (λ (h : UnitHeader). h.start) _ c.args.offset c.requires.rises) (λ a r q k. search rules) in
    c.distance_in.ensures ∙ found_some _ _ _ _ c.if-count-eq0.false c.partition_point-count.ensures.bound point
