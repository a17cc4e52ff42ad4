use Rattle.std.proofs.Common.{◌+◌, drop, ◌∙◌, arith}
use Rattle.std.proofs.lemmas.Result.{err_from_is_err_and}
use Rattle.blz_rows.proofs.Gathering.{ended}
use Rattle.blz_rows.proofs.GatherSteps.{ends_till, row_on, row_break}
use Rattle.blz_rows.proofs.Splits.{rows_over}
use Rattle.blz_rows.proofs.gather.push_rows.Goals as goal

pub loop-index-preserved : goal.loop-index-preserved
loop-index-preserved c = record {
  so_far = row_on c.loop-index.found.items c.push_row.new.found.items c.args.lines c.loop-index.files c.args.files.now c.args.sequence.now.end c.end_of-end.result c.rows-rows.result.now c.loop-index.index _ _ c.loop-index.invariant.same (omega arith) (ends_till _ (drop (c.loop-index.index + 1) c.rows-rows.result.now) c.sequence.view_is c.end_of-end.ensures) c.in_ok-push_row.ensures.value c.loop-index.invariant.so_far;
  same = c.in_ok-push_row.ensures.same ∙ c.loop-index.invariant.same;
}

pub returns-in_err-push_row-clause-value : goal.returns-in_err-push_row-clause-value
returns-in_err-push_row-clause-value c =
    let p = err_from_is_err_and c.from_residual-in_err-push_row.result c.from_residual-in_err-push_row.ensures.1 in
    rw (p.1, p.2, ← c.rows-rows.ensures) (row_break _ c.loop-index.found.items c.args.lines c.loop-index.files c.args.files.now c.args.sequence.now.end c.end_of-end.result c.rows-rows.result.now c.loop-index.index _ _ c.loop-index.invariant.same (omega arith) (ends_till _ (drop (c.loop-index.index + 1) c.rows-rows.result.now) c.sequence.view_is c.end_of-end.ensures) c.in_err-push_row.ensures.value c.loop-index.invariant.so_far)

pub returns-clause-value : goal.returns-clause-value
returns-clause-value c =
    rw (← c.rows-rows.ensures) (ended c.loop-index.found.items c.args.files.now.name c.args.lines _ _ (rows_over _ _ c.rows-rows.result.now c.loop-index.index (omega arith)) c.loop-index.invariant.so_far)
