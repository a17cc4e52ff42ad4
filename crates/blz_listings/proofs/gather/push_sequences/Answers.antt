use Rattle.std.proofs.Common.{arith}
use Rattle.std.proofs.lemmas.Result.{err_from_is_err_and}
use Rattle.blz_rows.proofs.Splits.{sequences_over}
use Rattle.blz_listings.proofs.Gathering.{ended}
use Rattle.blz_listings.proofs.GatherSteps.{sequence_on, sequence_break}
use Rattle.blz_listings.proofs.gather.push_sequences.Goals as goal

pub loop-sequence-preserved : goal.loop-sequence-preserved
loop-sequence-preserved c =
    sequence_on c.loop-sequence.listing _ _ _ c.loop-sequence.sequence-index c.sequence-item.result _ (omega arith) c.sequence-item.is c.in_ok-push_rows.ensures c.loop-sequence.invariant

pub returns-in_err-push_rows : goal.returns-in_err-push_rows
returns-in_err-push_rows c =
    let p = err_from_is_err_and c.from_residual.result c.from_residual.ensures.1 in
    rw (p.1, p.2, ← c.sequences-sequence-items.ensures) (sequence_break _ c.loop-sequence.listing _ _ c.loop-sequence.sequence-index c.sequence-item.result _ (omega arith) c.sequence-item.is c.in_err-push_rows.ensures c.loop-sequence.invariant)

pub returns : goal.returns
returns c =
    rw (← c.sequences-sequence-items.ensures)
    (ended c.loop-sequence.listing _ _ (sequences_over _ c.sequences-sequence-items.result.now c.loop-sequence.sequence-index (omega arith)) c.loop-sequence.invariant)
