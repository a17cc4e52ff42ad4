use Rattle.std.proofs.Common.{◌∙◌, arith}
use Rattle.std.proofs.lemmas.Result.{err_from_is_err_and}
use Rattle.blz_rows.proofs.Gathering.{ended}
use Rattle.blz_rows.proofs.GatherSteps.{sequence_on, sequence_break}
use Rattle.blz_rows.proofs.Splits.{sequences_over}
use Rattle.blz_rows.proofs.gather.push_sequences.Goals as goal

pub loop-sequence-preserved : goal.loop-sequence-preserved
loop-sequence-preserved c = record {
  so_far = sequence_on _ _ c.args.asked.lines c.loop-sequence.files c.in_ok-files.files _ c.loop-sequence.sequence-index c.sequence-item.result _ c.loop-sequence.invariant.same (omega arith) c.sequence-item.is c.in_ok-push_rows.ensures.value c.loop-sequence.invariant.so_far;
  same = c.in_ok-push_rows.ensures.same ∙ c.loop-sequence.invariant.same;
}

pub returns-in_err-push_rows : goal.returns-in_err-push_rows
returns-in_err-push_rows c =
    let p = err_from_is_err_and c.from_residual-in_err-push_rows.result c.from_residual-in_err-push_rows.ensures.1 in
    rw (p.1, p.2, ← c.sequences-sequence-items.ensures, ← c.in_ok-files.ensures.files, ← c.in_ok-files.ensures.name) (sequence_break _ _ c.args.asked.lines c.loop-sequence.files c.in_ok-files.files _ c.loop-sequence.sequence-index c.sequence-item.result _ c.loop-sequence.invariant.same (omega arith) c.sequence-item.is c.in_err-push_rows.ensures.value c.loop-sequence.invariant.so_far)

pub returns : goal.returns
returns c =
    rw (← c.sequences-sequence-items.ensures, ← c.in_ok-files.ensures.files, ← c.in_ok-files.ensures.name)
    (ended c.loop-sequence.found.items c.in_ok-files.files.name c.args.asked.lines _ _ (sequences_over _ c.sequences-sequence-items.result.now c.loop-sequence.sequence-index (omega arith)) c.loop-sequence.invariant.so_far)
