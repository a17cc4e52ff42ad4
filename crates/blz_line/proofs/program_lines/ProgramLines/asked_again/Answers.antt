use Rattle.std.proofs.Common.{ap, ◌∙◌}
use Rattle.std.specs.declared.alloc.Global.{Global}
use Rattle.std.specs.declared.vec.Vec.{Vec}
use Rattle.blz_line.specs.Lookups.{spans_of}
use Rattle.blz_line.specs.declared.row.LineSequence.{LineSequence}
use Rattle.blz_line.proofs.program_lines.ProgramLines.asked_again.Goals as goal

pub invariant_of-result : goal.invariant_of-result
invariant_of-result g c = record {
  index = rw (c.in_ok-index.ensures.ok, c.in_ok-sequences.ensures) (c.in_ok-order.ensures.spans ∙ c.in_ok-spans.ensures ∙ ap spans_of (c.as_slice.ensures.value ∙ ap (λ (v : Vec LineSequence Global). v.items) c.deref.ensures));
  rising = rw c.in_ok-sequences.ensures c.self.invariant.rising;
}
