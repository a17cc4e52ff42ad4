use Rattle.std.proofs.Common.{leb, rules}
use Rattle.std.proofs.lemmas.List.Sorted.{IsPartitionPoint-from_clause, IsPartitionedBy-leb}
use Rattle.blz_line.specs.declared.row.LineRow.{LineRow}
use Rattle.blz_line.proofs.RowsUpTo.{row_at_start, row_at_count}
use Rattle.blz_line.proofs.lookup.row_at.Goals as goal

pub returns-then-count-eq0 : goal.returns-then-count-eq0
returns-then-count-eq0 c =
    let point = IsPartitionPoint-from_clause (λ (row : LineRow). leb row.address c.args.addr) _ _ c.partition_point-count.ensures.partitioned (IsPartitionedBy-leb (λ (row : LineRow). row.address) _ c.args.addr c.requires) (λ a r q k. search rules) in
    row_at_start _ _ _ c.if-count-eq0.true point

pub returns : goal.returns
returns c =
    let point = IsPartitionPoint-from_clause (λ (row : LineRow). leb row.address c.args.addr) _ _ c.partition_point-count.ensures.partitioned (IsPartitionedBy-leb (λ (row : LineRow). row.address) _ c.args.addr c.requires) (λ a r q k. search rules) in
    row_at_count _ _ _ _ c.if-count-eq0.false c.partition_point-count.ensures.bound point
