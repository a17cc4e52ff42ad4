use Rattle.std.proofs.Common.{sym, ◌∙◌}
use Rattle.blz_units.proofs.Appended.{spans_more, spans_over}
use Rattle.blz_units.proofs.announced.announcing.append_spans.Goals as goal

pub loop-sequence-preserved : goal.loop-sequence-preserved
loop-sequence-preserved c = rw (c.in_ok-push.ensures.items, c.span_of.ensures) (sym (spans_more c.args.sequences.now c.loop-sequence.sequence-index c.sequence-item.result _ c.loop-sequence-test.true c.sequence-item.is) ∙ c.loop-sequence.invariant)

pub returns : goal.returns
returns c = sym (spans_over c.args.sequences.now c.loop-sequence.sequence-index _ c.loop-sequence-test.false) ∙ c.loop-sequence.invariant
