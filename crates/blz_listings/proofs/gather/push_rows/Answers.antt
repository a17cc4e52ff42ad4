use Rattle.std.proofs.Common.{◌+◌, drop, arith}
use Rattle.std.proofs.lemmas.Result.{err_from_is_err_and}
use Rattle.blz_rows.proofs.Splits.{rows_over}
use Rattle.blz_listings.proofs.Gathering.{ended}
use Rattle.blz_listings.proofs.GatherSteps.{ends_till, row_on, row_break}
use Rattle.blz_listings.proofs.gather.push_rows.Goals as goal

pub loop-index-preserved : goal.loop-index-preserved
loop-index-preserved c =
    row_on c.loop-index.listing c.push_row.new.listing _ c.args.sequence.now.end c.end_of-end.result c.rows-rows.result.now c.loop-index.index _ _ (omega arith) (ends_till _ (drop (c.loop-index.index + 1) c.rows-rows.result.now) c.sequence.view_is c.end_of-end.ensures) c.in_ok-push_row.ensures c.loop-index.invariant

pub returns-in_err-push_row : goal.returns-in_err-push_row
returns-in_err-push_row c =
    let p = err_from_is_err_and c.from_residual.result c.from_residual.ensures.1 in
    rw (p.1, p.2, ← c.rows-rows.ensures) (row_break _ c.loop-index.listing _ c.args.sequence.now.end c.end_of-end.result c.rows-rows.result.now c.loop-index.index _ _ (omega arith) (ends_till _ (drop (c.loop-index.index + 1) c.rows-rows.result.now) c.sequence.view_is c.end_of-end.ensures) c.in_err-push_row.ensures c.loop-index.invariant)

pub returns : goal.returns
returns c = rw (← c.rows-rows.ensures) (ended c.loop-index.listing _ _ (rows_over _ _ c.rows-rows.result.now c.loop-index.index (omega arith)) c.loop-index.invariant)
